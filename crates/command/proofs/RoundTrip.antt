-- What is written reads as the command, and what is read writes back to its bytes. Assumes nothing.
use mathlib.Core.Path.{◌∙◌, ◌≡◌, ap, refl, subst, sym}
use mathlib.Core.Bool.{Bool, cond, false, not, true}
use mathlib.Core.List.{List, ◌∷◌, []}
use Prim.Native.Nat.{◌%◌, ◌*◌, ◌+◌, ◌/◌, ◌<◌, ◌≤◌, ℕ, suc, zero, zero-le}
use native.Mathlib.Omega.{arith}
use lib.Dec.{eqb}
use lib.ListN.{get_or, length}
use borrow.Author.Tests.{eqb-true, ltb-true}
use Rattle.std.specs.Prelude.{Ok}
use Rattle.lists.specs.Tests.{all_in}
use Rattle.lists.proofs.Bools.{and_in, and_l, and_r, not_is}
use Rattle.promise.specs.declared.Call.{Call}
use Rattle.promise.specs.declared.Call.TheVariants.{Begin, Commit, Delete, Fail, Fit, Get, Load, Move, Place, Rollback}
use Rattle.promise.specs.declared.Call.TheVariants.{Settle, Start, State, Store, Withdraw}
use Rattle.command.specs.declared.Command.{Command}
use Rattle.command.specs.declared.Command.TheVariants.{Of, WideMove}
use Rattle.command.specs.declared.Fields.{Fields}
use Rattle.command.specs.Commands.{bytes_for, call_at, call_fields, calls, command_at, command_of, command_size, encoded}
use Rattle.command.specs.Commands.{fields_for, fields_given, fields_in, fields_of, is_writable, formed, forms, is_byte}
use Rattle.command.specs.Commands.{is_of_case, is_wide_move, last_call, most_card, most_mask, most_number, most_tran}
use Rattle.command.specs.Commands.{most_value, move_operation, operation_count, read_of, unknown, well_formed, fields_within}
use Rattle.command.specs.Commands.{is_written}
use Rattle.command.specs.RoundTrips.{ReadWrites, WrittenReads}
use Rattle.command.proofs.Answers.{command-is, read-asks, read-form, writable-formed, write-fit, write-says}
use Rattle.command.proofs.Bytes.{by-five}
use Rattle.command.proofs.Forms.{AtMost, Each, Wide, ◌then◌, at_most, each_at, form_of, formed_known}
use Rattle.command.proofs.Forms.{formed_wide, none}

-- fields are equal by each of the five
same-fields : {f g : Fields} → f.operation ≡ g.operation → f.tran ≡ g.tran → f.card ≡ g.card → f.number ≡ g.number → f.value ≡ g.value → f ≡ g
same-fields a b c d e = λ i. record { operation = a i; tran = b i; card = c i; number = d i; value = e i }

-- ---- fields and bytes
pub fields-encoded : (f : Fields) → Wide f → fields_in (encoded f) ≡ f
unfolding fields_in
fields-encoded f w =
    same-fields (omega arith) (omega arith) (omega arith) (omega arith) (omega arith)

pub encoded-fields : (a b c d e : ℕ) → all_in is_byte (a ∷ b ∷ c ∷ d ∷ e ∷ []) ≡ true → encoded (fields_of a b c d e) ≡ a ∷ b ∷ c ∷ d ∷ e ∷ []
encoded-fields a b c d e h =
    let h1 : all_in is_byte (b ∷ c ∷ d ∷ e ∷ []) ≡ true = and_r (is_byte a) _ h in
    let h2 : all_in is_byte (c ∷ d ∷ e ∷ []) ≡ true = and_r (is_byte b) _ h1 in
    let h3 : all_in is_byte (d ∷ e ∷ []) ≡ true = and_r (is_byte c) _ h2 in
    let h4 : all_in is_byte (e ∷ []) ≡ true = and_r (is_byte d) _ h3 in
    let ha : a < 256 = ltb-true a 256 (and_l (is_byte a) _ h) in
    let hb : b < 256 = ltb-true b 256 (and_l (is_byte b) _ h1) in
    let hc : c < 256 = ltb-true c 256 (and_l (is_byte c) _ h2) in
    let hd : d < 256 = ltb-true d 256 (and_l (is_byte d) _ h3) in
    let he : e < 256 = ltb-true e 256 (and_l (is_byte e) _ h4) in
    let pa : a / 16 * 16 + a % 16 ≡ a = omega arith in
    let pb : b / 16 * 16 + (b % 16 * 256 + c) / 256 ≡ b = omega arith in
    let pc : (b % 16 * 256 + c) % 256 ≡ c = omega arith in
    let pd : (d * 256 + e) / 256 ≡ d = omega arith in
    let pe : (d * 256 + e) % 256 ≡ e = omega arith in
    λ i. pa i ∷ pb i ∷ pc i ∷ pd i ∷ pe i ∷ []

-- ---- fields and calls
pub call_back : (call : Call) → call_at (call_fields call) ≡ call
unfolding call_at call_fields
call_back (Start m) = refl
call_back (Begin t c) = refl
call_back (Get t r) = refl
call_back (Store t r n) = refl
call_back (Delete t r) = refl
call_back (Commit t) = refl
call_back (Rollback t) = refl
call_back (Fit c) = refl
call_back (Withdraw c) = refl
call_back (Place m) = refl
call_back (Fail c) = refl
call_back (Move c b) = refl
call_back Settle = refl
call_back State = refl
call_back (Load c) = refl

-- a number in a field with this limit: none but 0 where the limit is 0
abbrev kept : ℕ → ℕ → ℕ
kept zero n = 0
kept (suc most) n = n

kept-fits : (most n : ℕ) → n ≤ most → kept most n ≡ n
kept-fits zero n h = omega arith
kept-fits (suc most) n h = refl

-- fields of this form, made anew from those that the operation has
back : (f : Fields) (n a b c d : ℕ) → f.operation ≡ n → fields_within a b c d f ≡ true → fields_given n (kept a f.tran) (kept b f.card) (kept c f.number) (kept d f.value) ≡ f
back f n a b c d e h =
    let m : AtMost a b c d f = at_most a b c d f h in
    same-fields (sym e) (kept-fits a f.tran m.tran-fits) (kept-fits b f.card m.card-fits)
    (kept-fits c f.number m.number_fits) (kept-fits d f.value m.value-fits)

BackAt : Fields → ℕ → Type 0
BackAt f n = f.operation ≡ n → get_or forms n unknown f ≡ true → call_fields (get_or calls n last_call f) ≡ f

calls_back : (f : Fields) → Each (BackAt f) operation_count 0
unfolding BackAt call_fields
calls_back f =
    back f 0 0 0 0 most_mask
    then back f 1 most_tran most_card 0 0
    then back f 2 most_tran 0 most_number 0
    then back f 3 most_tran 0 most_number most_value
    then back f 4 most_tran 0 most_number 0
    then back f 5 most_tran 0 0 0
    then back f 6 most_tran 0 0 0
    then back f 7 0 most_card 0 0
    then back f 8 0 most_card 0 0
    then back f 9 0 0 0 most_mask
    then back f 10 0 most_card 0 0
    then back f move_operation 0 most_card most_number 0
    then back f 12 0 0 0 0
    then back f 13 0 0 0 0
    then back f 14 0 most_card 0 0
    then none

pub call-fields-back : (f : Fields) → formed f ≡ true → call_fields (call_at f) ≡ f
unfolding BackAt call_at
call-fields-back f h =
    each_at (BackAt f) operation_count 0 f.operation (calls_back f) zero-le (formed_known f h) refl (form_of f f.operation refl ∙ h)

-- ---- fields and commands
pub command-back : (c : Command) → is_of_case c ≡ true → command_at (fields_for c) ≡ c
unfolding is_wide_move
command-back (Of call) h = command-is (call_fields call) false (not_is _ h) ∙ ap Of (call_back call)
command-back (WideMove c n) h = command-is (fields_given move_operation 0 c.0 n 0) true h

-- fields of a known operation are those of the command that they ask for, and it is of its case
abbrev Back : Fields → Command → Type 0
Back f c = (is_of_case c ≡ true) × (fields_for c ≡ f)

back_at : (f : Fields) (b : Bool) → is_wide_move f ≡ b → formed f ≡ true → Back f (cond b (WideMove (record { 0 = f.card }) f.number) (Of (call_at f)))
unfolding is_wide_move
back_at f true e h =
    let m : f.operation ≡ move_operation = eqb-true _ _ (and_l (eqb f.operation move_operation) _ e) in
    (and_r (eqb f.operation move_operation) _ e, back f move_operation 0 most_card most_number 0 m (form_of f move_operation m ∙ h))
back_at f false e h =
    let k : call_fields (call_at f) ≡ f = call-fields-back f h in
    (ap not (ap is_wide_move k ∙ e), k)

pub fields_back : (f : Fields) → formed f ≡ true → Back f (command_at f)
unfolding command_at
fields_back f h = back_at f (is_wide_move f) refl h

-- ---- the two theorems
-- the bytes of a writable command read as it
bytes_read : (c : Command) → is_writable c ≡ true → read_of (bytes_for c) ≡ Ok c
unfolding is_writable bytes_for
bytes_read c h =
    let k : formed (fields_for c) ≡ true = writable-formed c h in
    let e : fields_in (encoded (fields_for c)) ≡ fields_for c = fields-encoded (fields_for c) (formed_wide (fields_for c) k) in
    sym (read-form (encoded (fields_for c)) true refl (ap formed e ∙ k))
    ∙ ap Ok (ap command_at e ∙ command-back c (and_l (is_of_case c) _ h))

pub written-reads : WrittenReads
written-reads lent c e =
    let w : is_written lent c ≡ true = write-says lent c e in
    ap (λ (t : Bool). read_of (cond t (bytes_for c) lent)) w ∙ bytes_read c (and_r (eqb (length lent) command_size) _ w)

of-form : (l : List ℕ) → all_in is_byte l ≡ true → well_formed l ≡ true → (is_writable (command_of l) ≡ true) × (bytes_for (command_of l) ≡ l)
unfolding well_formed is_writable bytes_for fields_in
of-form l bytes h =
    let size : length l ≡ command_size = eqb-true _ _ (and_l (eqb (length l) command_size) _ h) in
    let k : formed (fields_in l) ≡ true = and_r (eqb (length l) command_size) _ h in
    let b : Back (fields_in l) (command_of l) = fields_back (fields_in l) k in (
      and_in _ _ b.0 (ap formed b.1 ∙ k),
      ap encoded b.1 ∙ by-five (λ m. all_in is_byte m ≡ true → encoded (fields_in m) ≡ m) encoded-fields l size bytes,
    )

-- what is read is writable, and its bytes are those read
read-bytes : (l : List ℕ) (c : Command) → all_in is_byte l ≡ true → read_of l ≡ Ok c → (is_writable c ≡ true) × (bytes_for c ≡ l)
read-bytes l c bytes e =
    let r = read-asks l c e in
    subst (λ (d : Command). (is_writable d ≡ true) × (bytes_for d ≡ l)) r.1 (of-form l bytes r.0)

pub read-writes : ReadWrites
read-writes bytes lent c small size e =
    let r = read-bytes bytes c small e in
    let w = write-fit lent c true size r.0 in
    record { says = sym w.0; leaves = sym w.1 ∙ r.1 }
