-- Commands: RULES, "Commands and the listing". What five bytes ask for, and the five bytes of a command. Assumes nothing.
use Rattle.std.specs.Prelude.{◌%◌, ◌*◌, ◌+◌, ◌/◌, ◌^◌, ℕ, eqb, leb, ltb, get_or, length, Bool, ◌&&◌, cond, false, not, List, ◌∷◌, [], Result, Ok, Err, ⊤}
use Rattle.promise.specs.declared.Call.{Call}
use Rattle.promise.specs.declared.Call.TheVariants.{Begin, Commit, Delete, Fail, Fit, Get, Load, Move, Place, Rollback}
use Rattle.promise.specs.declared.Call.TheVariants.{Settle, Start, State, Store, Withdraw}
use Rattle.command.specs.declared.Command.{Command}
use Rattle.command.specs.declared.Command.TheVariants.{Of, WideMove}
use Rattle.command.specs.declared.Fields.{Fields}
use Rattle.command.specs.declared.Malformed.{Malformed}

-- The bytes of a command, the known operations, and the one that has a block.
abbrev pub command_size : ℕ
command_size = 5

abbrev pub operation_count : ℕ
operation_count = 15

abbrev pub move_operation : ℕ
move_operation = 11

-- A byte is below 256.
abbrev pub is_byte : ℕ → Bool
is_byte b = ltb b (2 ^ 8)

-- A command has five fields in five bytes: operation of 4 bits, transaction of 4, card of 4, record or block of 12, value
-- or mask of 16, most significant bit first. The fields of five bytes, and of the five bytes of a list.
abbrev pub fields_of : ℕ → ℕ → ℕ → ℕ → ℕ → Fields
fields_of a b c d e = record {
  operation = a / 2 ^ 4;
  tran = a % 2 ^ 4;
  card = b / 2 ^ 4;
  number = b % 2 ^ 4 * 2 ^ 8 + c;
  value = d * 2 ^ 8 + e;
}

unfoldable pub fields_in : List ℕ → Fields
fields_in l = fields_of (get_or l 0 0) (get_or l 1 0) (get_or l 2 0) (get_or l 3 0) (get_or l 4 0)

-- The greatest number of each field, 4, 4, 12 and 16 bits wide; a mask has 8 of its 16 bits.
abbrev pub most_tran : ℕ
most_tran = 15

abbrev pub most_card : ℕ
most_card = 15

abbrev pub most_number : ℕ
most_number = 4095

abbrev pub most_value : ℕ
most_value = 65535

abbrev pub most_mask : ℕ
most_mask = 255

-- The transaction, the card, the record or block and the value or mask are at most these.
unfoldable pub fields_within : ℕ → ℕ → ℕ → ℕ → Fields → Bool
fields_within tran card number value f =
    leb f.tran tran && (leb f.card card && (leb f.number number && leb f.value value))

-- The form of each known operation: the fields that it lacks are zero, and a mask is at most 255.
abbrev pub forms : List (Fields → Bool)
forms =
    -- 0 start
    fields_within 0 0 0 most_mask
    -- 1 begin
    ∷ fields_within most_tran most_card 0 0
    -- 2 get, 3 store, 4 delete
    ∷ fields_within most_tran 0 most_number 0
    ∷ fields_within most_tran 0 most_number most_value
    ∷ fields_within most_tran 0 most_number 0
    -- 5 commit, 6 rollback
    ∷ fields_within most_tran 0 0 0
    ∷ fields_within most_tran 0 0 0
    -- 7 fit, 8 withdraw
    ∷ fields_within 0 most_card 0 0
    ∷ fields_within 0 most_card 0 0
    -- 9 place
    ∷ fields_within 0 0 0 most_mask
    -- 10 fail
    ∷ fields_within 0 most_card 0 0
    -- 11 move
    ∷ fields_within 0 most_card most_number 0
    -- 12 settle, 13 state
    ∷ fields_within 0 0 0 0
    ∷ fields_within 0 0 0 0
    -- 14 load
    ∷ fields_within 0 most_card 0 0
    ∷ []

-- Operations 0 to 14 are known; 15 is none. Fields are formed if the operation is known and they are of its form.
abbrev pub unknown : Fields → Bool
unknown f = false

unfoldable pub formed : Fields → Bool
formed f = get_or forms f.operation unknown f

-- A list of bytes is a command if it has five bytes with formed fields.
unfoldable pub well_formed : List ℕ → Bool
well_formed l = eqb (length l) command_size && formed (fields_in l)

-- The call of each operation, from its fields, in the order start, begin, get, store, delete, commit, rollback, fit,
-- withdraw, place, fail, move, settle, state, load. The last, load, stands apart.
abbrev pub calls : List (Fields → Call)
calls =
    (λ f. Start f.value)
    ∷ (λ f. Begin (record { 0 = f.tran }) (record { 0 = f.card }))
    ∷ (λ f. Get (record { 0 = f.tran }) (record { 0 = f.number }))
    ∷ (λ f. Store (record { 0 = f.tran }) (record { 0 = f.number }) f.value)
    ∷ (λ f. Delete (record { 0 = f.tran }) (record { 0 = f.number }))
    ∷ (λ f. Commit (record { 0 = f.tran }))
    ∷ (λ f. Rollback (record { 0 = f.tran }))
    ∷ (λ f. Fit (record { 0 = f.card }))
    ∷ (λ f. Withdraw (record { 0 = f.card }))
    ∷ (λ f. Place f.value)
    ∷ (λ f. Fail (record { 0 = f.card }))
    ∷ (λ f. Move (record { 0 = f.card }) (record { 0 = f.number }))
    ∷ (λ f. Settle)
    ∷ (λ f. State)
    ∷ []

abbrev pub last_call : Fields → Call
last_call f = Load (record { 0 = f.card })

-- The call of a known operation with these fields.
abbrev pub call_by : ℕ → Fields → Call
call_by operation f = get_or calls operation last_call f

unfoldable pub call_at : Fields → Call
call_at f = call_by f.operation f

-- A block is a byte, and its field has 12 bits: a move of a number that no block can have.
abbrev pub most_block : ℕ
most_block = 255

unfoldable pub is_wide_move : Fields → Bool
is_wide_move f = eqb f.operation move_operation && ltb most_block f.number

-- The command of a known operation with these fields: such a move with its number, or a call.
unfoldable pub command_at : Fields → Command
command_at f = cond (is_wide_move f) (WideMove (record { 0 = f.card }) f.number) (Of (call_at f))

-- What reader and writer answer: a value where a test passes, else that the command is malformed.
abbrev pub no_command : Malformed
no_command = record {}

abbrev pub or_malformed : {A : Type 0} → Bool → A → Result A Malformed
or_malformed t x = cond t (Ok x) (Err no_command)

-- The fields that a list of bytes shows, if it is a command.
unfoldable pub shown_fields : List ℕ → Result Fields Malformed
shown_fields l = or_malformed (well_formed l) (fields_in l)

-- The command that a list of bytes shows, and what the reader says of the list.
abbrev pub command_of : List ℕ → Command
command_of l = command_at (fields_in l)

unfoldable pub read_of : List ℕ → Result Command Malformed
read_of l = or_malformed (well_formed l) (command_of l)

-- Fields by their numbers, those of a call, and those of a command: zero where it lacks one.
abbrev pub fields_given : ℕ → ℕ → ℕ → ℕ → ℕ → Fields
fields_given operation tran card number value =
    record { operation = operation; tran = tran; card = card; number = number; value = value }

unfoldable pub call_fields : Call → Fields
call_fields (Start m) = fields_given 0 0 0 0 m
call_fields (Begin t h) = fields_given 1 t.0 h.0 0 0
call_fields (Get t r) = fields_given 2 t.0 0 r.0 0
call_fields (Store t r n) = fields_given 3 t.0 0 r.0 n
call_fields (Delete t r) = fields_given 4 t.0 0 r.0 0
call_fields (Commit t) = fields_given 5 t.0 0 0 0
call_fields (Rollback t) = fields_given 6 t.0 0 0 0
call_fields (Fit c) = fields_given 7 0 c.0 0 0
call_fields (Withdraw c) = fields_given 8 0 c.0 0 0
call_fields (Place m) = fields_given 9 0 0 0 m
call_fields (Fail c) = fields_given 10 0 c.0 0 0
call_fields (Move c b) = fields_given move_operation 0 c.0 b.0 0
call_fields Settle = fields_given 12 0 0 0 0
call_fields State = fields_given 13 0 0 0 0
call_fields (Load c) = fields_given 14 0 c.0 0 0

abbrev pub fields_for : Command → Fields
fields_for (Of call) = call_fields call
fields_for (WideMove c n) = fields_given move_operation 0 c.0 n 0

-- A command is of its case: a call has no wider block than a byte, and a wide move no number that a block can have.
abbrev pub is_of_case : Command → Bool
is_of_case (Of call) = not (is_wide_move (call_fields call))
is_of_case (WideMove c n) = ltb most_block n

-- A command can be written if it is of its case and its fields are formed: no number is too wide for its field.
unfoldable pub is_writable : Command → Bool
is_writable command = is_of_case command && formed (fields_for command)

-- The five bytes with these fields, and those of a command.
abbrev pub encoded : Fields → List ℕ
encoded f =
    (f.operation * 2 ^ 4 + f.tran)
    ∷ (f.card * 2 ^ 4 + f.number / 2 ^ 8)
    ∷ (f.number % 2 ^ 8)
    ∷ (f.value / 2 ^ 8)
    ∷ (f.value % 2 ^ 8)
    ∷ []

unfoldable pub bytes_for : Command → List ℕ
bytes_for command = encoded (fields_for command)

-- Whether the writer writes: five bytes are lent, and the command can be written. What it says, and the lent bytes after
-- it: as found where it does not write.
abbrev pub is_written : List ℕ → Command → Bool
is_written l command = eqb (length l) command_size && is_writable command

unfoldable pub write_of : List ℕ → Command → Result ⊤ Malformed
write_of l command = or_malformed (is_written l command) tt

abbrev pub write_leaves : List ℕ → Command → List ℕ
write_leaves l command = cond (is_written l command) (bytes_for command) l

-- The same of a command that is given by its fields: what the writer says, and the lent bytes after it.
abbrev pub fields_fit : List ℕ → Fields → Bool
fields_fit l f = eqb (length l) command_size && formed f

unfoldable pub write_fields : List ℕ → Fields → Result ⊤ Malformed
write_fields l f = or_malformed (fields_fit l f) tt

unfoldable pub fields_leave : List ℕ → Fields → List ℕ
fields_leave l f = cond (fields_fit l f) (encoded f) l

-- 15 says that a command is malformed: the number that reader and writer refuse with, and 0 where they do not refuse.
abbrev pub malformed : ℕ
malformed = 15

abbrev pub answer_refusal : {A : Type 0} → Result A Malformed → ℕ
answer_refusal (Ok x) = 0
answer_refusal (Err e) = malformed
