-- The table of controls: good ones, and ones in which a clause of the control form is broken, alone wherever no other
-- clause must fall with it. Which clauses fall is computed. Assumes nothing.
use mathlib.Core.Path.{◌≡◌, refl}
use mathlib.Core.Bool.{Bool, true, false, ◌||◌, cond}
use mathlib.Core.List.{List, [], ◌∷◌, ◌++◌, reverse}
use Prim.Native.Nat.{ℕ, ◌%◌, ◌/◌}
use lib.Dec.{eqb}
use lib.ListN.{get_or}
use Rattle.lists.specs.Tabulate.{tabulate}
use Rattle.lists.specs.Tests.{all_in, all_below}
use Rattle.image.specs.Layout.{most_placed, pairs_size, tran_bound}
use Rattle.mask.specs.Masks.{has_card, with_card, size, common, is_within, are_apart, is_within_either, is_one_more}
use Rattle.mask.specs.Pairs.{are_pairs_of, is_pair_of, pair_at}
use Rattle.method.specs.ControlPart.{active}
use Rattle.control.specs.ControlBytes.{Part, control_byte, control_of, tail_of}
use Rattle.control_form.specs.ControlForm.{all_safe, chain_ok, count_ok, form_ok, front_ok, home_ok, is_safe, kept_ok, masks_of, members_ok, part_ok, serial_ok, tables_ok, zero_fields_ok}

-- A clause of the control form.
pub data Clause : Type 0 where
  -- count is 1 to 4
  count : Clause
  -- zero fields are zero
  zero_fields : Clause
  -- working and failed share no card
  apart : Clause
  -- an active placement has two members or more, each working or failed
  members : Clause
  -- of four placements the third has one failed card more than the fourth
  chain : Clause
  -- in a running store all members of the newest placement work
  newest_works : Clause
  -- in a running store an active placement has fewer than two failed members, and two working ones or more
  safe : Clause
  -- in a running store the homes work; in a stopped one no transaction is open
  homes : Clause
  -- the serial is not below the count, and with the newest placement's members added not above 16,777,008
  serials : Clause
  -- nothing is kept for a placement that is not by table or not there
  kept : Clause
  -- the pairs of a placement by table are two different members each
  pairs : Clause

abbrev fault : Bool → Clause → List Clause
fault true x = []
fault false x = x ∷ []

-- The clauses that bytes break.
abbrev pub faults_of : Part → List Clause
faults_of k = fault (are_apart k.working k.failed) apart
    ++ (fault (all_in (λ p. members_ok k.working k.failed p.mask) (active k)) members
    ++ (fault (chain_ok most_placed k.failed k.newest.mask (masks_of (reverse k.older))) chain
    ++ (fault (k.stopped || is_within k.newest.mask k.working) newest_works
    ++ (fault (k.stopped || all_safe k) safe
    ++ (fault (all_below tran_bound (λ t. home_ok k.stopped k.working (k.home t))) homes
    ++ fault (serial_ok k) serials)))))

abbrev pub faults_by : Part → (ℕ → ℕ) → (ℕ → ℕ) → List Clause
faults_by k g t =
    fault (count_ok g) count ++ (fault (zero_fields_ok k g) zero_fields ++ (faults_of k ++ (fault (kept_ok k t) kept ++ fault (tables_ok k) pairs)))

abbrev pub faults : (ℕ → ℕ) → (ℕ → ℕ) → List Clause
faults g t = faults_by (control_of g t) g t

-- Bytes with byte n changed.
abbrev pub changed : ℕ → ℕ → (ℕ → ℕ) → ℕ → ℕ
changed n x g i = cond (eqb i n) x (g i)

-- 32 bytes by their first ones and a serial of 7, which is below no count that three bits have; the rest zero. And with another serial.
abbrev pub bytes : List ℕ → ℕ → ℕ
bytes l = changed 25 7 (λ n. get_or l n 0)

abbrev pub with-serial : ℕ → ℕ → ℕ → (ℕ → ℕ) → ℕ → ℕ
with-serial a b c g = changed 23 a (changed 24 b (changed 25 c g))

-- A row: the bytes before the tables, those behind them, and the clauses that they break.
pub record Row : Type 0 where
  pub control : ℕ → ℕ
  pub behind : ℕ → ℕ
  pub broken : List Clause

infixl 3 ◌breaks◌
abbrev pub ◌breaks◌ : (ℕ → ℕ) → List Clause → Row
g breaks l = record { control = g; behind = λ n. 0; broken = l }

abbrev pub with_tail : (ℕ → ℕ) → (ℕ → ℕ) → List Clause → Row
with_tail g t l = record { control = g; behind = t; broken = l }

-- The pairs of placement i are cards 0 and 1 for every block.
abbrev pub zero_one : ℕ → ℕ → ℕ
zero_one i n = cond (eqb (n / pairs_size) i) (get_or (0x04 ∷ 0x10 ∷ 0x41 ∷ []) (n % 3) 0) 0

-- ---- good controls
-- cards 0, 1, 2 work and are the one placement
abbrev pub running : ℕ → ℕ
running = bytes (0x10 ∷ 0xe0 ∷ 0 ∷ 0 ∷ 0 ∷ 0xe0 ∷ 0 ∷ [])

-- four active placements, marked 0, card 3 failed; transactions 1 and 2 open with homes 0 and 2
abbrev pub four : ℕ → ℕ
four = bytes (0x40 ∷ 0xa0 ∷ 0xc0 ∷ 0xf0 ∷ 0xe0 ∷ 0xe0 ∷ 0x10 ∷ 0 ∷ 0x80 ∷ 0xa0 ∷ [])

-- stopped, cards 1 and 2 failed
abbrev pub stopped : ℕ → ℕ
stopped = bytes (0x90 ∷ 0xe0 ∷ 0 ∷ 0 ∷ 0 ∷ 0x80 ∷ 0x60 ∷ [])

abbrev pub good : List Row
good =
    (running breaks [])
    ∷ (four breaks [])
    ∷ (stopped breaks [])
    -- the third mask is free where the count is 3
    ∷ (bytes (0x30 ∷ 0xa0 ∷ 0xc0 ∷ 0xe0 ∷ 0 ∷ 0xe0 ∷ 0 ∷ []) breaks [])
    -- every one of four marked 1; the first and the third; one placement, marked 1
    ∷ (changed 7 0xf0 four breaks [])
    ∷ (changed 7 0xa0 four breaks [])
    ∷ (changed 7 0x80 running breaks [])
    -- two failed cards, each in another placement
    ∷ (bytes (0x30 ∷ 0xf0 ∷ 0xe8 ∷ 0xe0 ∷ 0 ∷ 0xe0 ∷ 0x18 ∷ []) breaks [])
    -- one placement, by table; four of all three kinds, the second by table
    ∷ with_tail (changed 7 0x08 running) (zero_one 0) []
    ∷ with_tail (changed 7 0x94 four) (zero_one 1) []
    -- a serial that is the count, of one and of four; the greatest with three members
    ∷ (with-serial 0 0 1 running breaks [])
    ∷ (with-serial 0 0 4 four breaks [])
    ∷ (with-serial 0xff 0xff 0x2d running breaks [])
    ∷ []

-- ---- serials
abbrev pub bad_serials : List Row
bad_serials =
    -- below the count: of one, of four, and where the store has stopped
    (with-serial 0 0 0 running breaks (serials ∷ []))
    ∷ (with-serial 0 0 3 four breaks (serials ∷ []))
    ∷ (with-serial 0 0 0 stopped breaks (serials ∷ []))
    -- one more than the greatest with three members; the greatest of three bytes
    ∷ (with-serial 0xff 0xff 0x2e running breaks (serials ∷ []))
    ∷ (with-serial 0xff 0xff 0xff running breaks (serials ∷ []))
    ∷ []

-- ---- tables
abbrev pub bad_tables : List Row
bad_tables =
    -- both marks on one placement; a mark for a table of a placement that is not there
    with_tail (changed 7 0x88 running) (zero_one 0) (zero_fields ∷ [])
    ∷ with_tail (changed 7 0x04 running) (λ n. 0) (zero_fields ∷ [])
    -- a bit kept for a placement that is not by table, by rails or as the base chose; for one that is not there; behind a table
    ∷ with_tail running (changed 0 0x80 (λ n. 0)) (kept ∷ [])
    ∷ with_tail (changed 7 0x80 running) (changed 47 0x01 (λ n. 0)) (kept ∷ [])
    ∷ with_tail running (changed 191 0x01 (λ n. 0)) (kept ∷ [])
    ∷ with_tail (changed 7 0x08 running) (changed 48 0x80 (zero_one 0)) (kept ∷ [])
    -- pairs of equal cards; the last second card is 3, the first first card is 4, neither of them a member
    ∷ with_tail (changed 7 0x08 running) (λ n. 0) (pairs ∷ [])
    ∷ with_tail (changed 7 0x08 running) (changed 47 0x43 (zero_one 0)) (pairs ∷ [])
    ∷ with_tail (changed 7 0x08 running) (changed 0 0x84 (zero_one 0)) (pairs ∷ [])
    -- the pairs of another placement
    ∷ with_tail (changed 7 0x94 four) (zero_one 0) (kept ∷ pairs ∷ [])
    ∷ []

-- ---- the count
abbrev pub bad_count : List Row
bad_count =
    -- Before the first start. A count of 0 is read as one placement with byte 0 for its mask, so the bytes are not those of what
    -- they show, and that placement has no member; there is no serial either.
    ((λ n. 0) breaks (count ∷ zero_fields ∷ members ∷ safe ∷ serials ∷ []))
    -- count 0, and byte 0 a mask of two working cards: zero fields must still fall
    ∷ (bytes (0x83 ∷ 0 ∷ 0 ∷ 0 ∷ 0 ∷ 0x83 ∷ 0 ∷ []) breaks (count ∷ zero_fields ∷ []))
    -- count 5, byte 5 read as the newest mask: each of the last three is the next plus one failed card
    ∷ (bytes (0xd0 ∷ 0xf8 ∷ 0xf8 ∷ 0xf8 ∷ 0xf0 ∷ 0xe0 ∷ 0x18 ∷ []) breaks (count ∷ []))
    -- count 5 and no extra card; count 6, byte 6 read as the newest mask; count 7, byte 7 read as it: it has no member
    ∷ (bytes (0x50 ∷ 0xe0 ∷ 0xe0 ∷ 0xe0 ∷ 0xe0 ∷ 0xe0 ∷ 0 ∷ []) breaks (count ∷ chain ∷ []))
    ∷ (bytes (0xe0 ∷ 0xe0 ∷ 0xe0 ∷ 0xe0 ∷ 0xe0 ∷ 0xe0 ∷ 0x18 ∷ []) breaks (count ∷ chain ∷ []))
    ∷ (bytes (0xf0 ∷ 0xe0 ∷ 0xe0 ∷ 0xe0 ∷ 0xe0 ∷ 0xe0 ∷ 0x18 ∷ []) breaks (count ∷ members ∷ chain ∷ []))
    ∷ []

-- ---- zero fields
abbrev pub bad_zeros : List Row
bad_zeros =
    -- the low bits of byte 0; an unused mask
    (changed 0 0x11 running breaks (zero_fields ∷ []))
    ∷ (changed 2 0xe0 running breaks (zero_fields ∷ []))
    ∷ (changed 4 0x01 running breaks (zero_fields ∷ []))
    -- the mark of a placement that is not there, the next one and the fourth; a low bit of the marks, the highest and the lowest
    ∷ (changed 7 0x40 running breaks (zero_fields ∷ []))
    ∷ (changed 7 0x90 running breaks (zero_fields ∷ []))
    ∷ (changed 7 0xf8 four breaks (zero_fields ∷ pairs ∷ []))
    ∷ (changed 7 0x01 running breaks (zero_fields ∷ []))
    -- the low bits of an open transaction's byte; a home and low bits in the byte of one that is not open
    ∷ (changed 8 0x81 running breaks (zero_fields ∷ []))
    ∷ (changed 9 0x20 running breaks (zero_fields ∷ []))
    ∷ (changed 22 0x01 running breaks (zero_fields ∷ []))
    -- the first and the last byte behind the serial
    ∷ (changed 26 0x80 running breaks (zero_fields ∷ []))
    ∷ (changed 31 0x01 running breaks (zero_fields ∷ []))
    ∷ []

-- ---- cards and placements
abbrev pub bad_placements : List Row
bad_placements =
    -- card 7 works and is failed
    (bytes (0x10 ∷ 0xe0 ∷ 0 ∷ 0 ∷ 0 ∷ 0xe1 ∷ 0x01 ∷ []) breaks (apart ∷ []))
    -- one member; stopped, for while the store runs it would have fewer than two working members too
    ∷ (bytes (0x90 ∷ 0x80 ∷ 0 ∷ 0 ∷ 0 ∷ 0x80 ∷ 0 ∷ []) breaks (members ∷ []))
    -- card 3 of the older placement neither works nor is failed
    ∷ (bytes (0x20 ∷ 0xf0 ∷ 0xe0 ∷ 0 ∷ 0 ∷ 0xe0 ∷ 0 ∷ []) breaks (members ∷ []))
    -- four active: the third mask's extra card works
    ∷ (changed 5 0xf0 (changed 6 0 four) breaks (chain ∷ []))
    -- two extra cards, one of them failed; both failed, and stopped
    ∷ (changed 3 0xf8 (changed 5 0xe8 four) breaks (chain ∷ []))
    ∷ (bytes (0xc0 ∷ 0xe0 ∷ 0xe0 ∷ 0xf8 ∷ 0xe0 ∷ 0xe0 ∷ 0x18 ∷ []) breaks (chain ∷ []))
    -- no extra card; an extra card, and a member of the fourth not in it
    ∷ (changed 3 0xe0 four breaks (chain ∷ []))
    ∷ (changed 3 0xd0 four breaks (chain ∷ []))
    ∷ []

-- ---- while the store runs, and when it has stopped
abbrev pub bad_runs : List Row
bad_runs =
    -- card 3 of the newest placement is failed
    (bytes (0x10 ∷ 0xf0 ∷ 0 ∷ 0 ∷ 0 ∷ 0xe0 ∷ 0x10 ∷ []) breaks (newest_works ∷ []))
    -- the older placement has two failed members; has one working member
    ∷ (bytes (0x20 ∷ 0xf8 ∷ 0xe0 ∷ 0 ∷ 0 ∷ 0xe0 ∷ 0x18 ∷ []) breaks (safe ∷ []))
    ∷ (bytes (0x20 ∷ 0x90 ∷ 0xe0 ∷ 0 ∷ 0 ∷ 0xe0 ∷ 0x10 ∷ []) breaks (safe ∷ []))
    -- the first and the last transaction are open, with home 3, which does not work
    ∷ (changed 8 0xb0 running breaks (homes ∷ []))
    ∷ (changed 22 0xb0 running breaks (homes ∷ []))
    -- stopped, and a transaction is open with home 0, which works
    ∷ (changed 8 0x80 stopped breaks (homes ∷ []))
    ∷ []

-- ---- the table
abbrev pub table : List Row
table = good ++ (bad_count ++ (bad_zeros ++ (bad_placements ++ (bad_runs ++ (bad_serials ++ bad_tables)))))

abbrev broken-in : List Row → List (List Clause)
broken-in [] = []
broken-in (r ∷ l) = r.broken ∷ broken-in l

abbrev faults-in : List Row → List (List Clause)
faults-in [] = []
faults-in (r ∷ l) = faults r.control r.behind ∷ faults-in l

abbrev forms-in : List Row → List Bool
forms-in [] = []
forms-in (r ∷ l) = form_ok r.control r.behind ∷ forms-in l

abbrev none-broken : List Row → List Bool
none-broken [] = []
none-broken (r ∷ l) = elim r.broken [ [] ↦ true | x ∷ m ↦ false ] ∷ none-broken l

-- The clauses that each row's bytes break are those that it names.
pub table-faults : faults-in table ≡ broken-in table
unfolding tabulate kept_ok tables_ok tail_of are_pairs_of is_pair_of pair_at
    count_ok zero_fields_ok are_apart members_ok size is_within_either chain_ok is_one_more with_card is_within is_safe common home_ok serial_ok has_card control_of control_byte
table-faults = refl

-- The control form holds of a row's bytes exactly where the row names no clause.
pub table-forms : forms-in table ≡ none-broken table
unfolding tabulate kept_ok tables_ok tail_of are_pairs_of is_pair_of pair_at
    form_ok front_ok part_ok count_ok zero_fields_ok are_apart members_ok size is_within_either chain_ok is_one_more with_card
    is_within is_safe common home_ok serial_ok has_card control_of control_byte
table-forms = refl
