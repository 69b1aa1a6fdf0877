-- The cases of what the reader says and of what the writer leaves. Assumes nothing.
use mathlib.Core.Path.{◌∙◌, ◌≡◌, ap, refl, sym}
use mathlib.Core.Bool.{Bool, ◌&&◌, cond, false, true}
use mathlib.Core.List.{List}
use Prim.Native.Nat.{ℕ}
use lib.ListN.{length}
use borrow.Author.Tests.{eq-eqb}
use Rattle.std.specs.Prelude.{Err, Ok, Result, ⊤}
use Rattle.lists.proofs.Bools.{and_r}
use Rattle.command.specs.declared.Command.{Command}
use Rattle.command.specs.declared.Command.TheVariants.{Of, WideMove}
use Rattle.command.specs.declared.Fields.{Fields}
use Rattle.command.specs.declared.Malformed.{Malformed}
use Rattle.command.specs.Commands.{bytes_for, call_at, command_at, command_of, command_size, fields_for}
use Rattle.command.specs.Commands.{fields_in, is_writable, formed, is_of_case, is_wide_move, write_leaves, read_of}
use Rattle.command.specs.Commands.{is_written, no_command, or_malformed, well_formed, write_of}

pub goes-past : (p q r : Bool) → p ≡ true → r ≡ q → r ≡ (p && q)
goes-past p q r e h = h ∙ sym (ap (λ (b : Bool). b && q) e)

-- ---- what a test answers
pub answered : {A : Type 0} (b : Bool) (x y : A) → or_malformed b x ≡ Ok y → (b ≡ true) × (x ≡ y)
answered true x y e = (refl, cc)
answered false x y e = cc

pub refused : {A : Type 0} (b : Bool) (x : A) → or_malformed b x ≡ Err no_command → b ≡ false
refused true x e = cc
refused false x e = refl

-- ---- the reader
pub read-by : (l : List ℕ) (b : Bool) → b ≡ well_formed l → or_malformed b (command_of l) ≡ read_of l
unfolding read_of
read-by l b e = ap (λ (t : Bool). or_malformed t (command_of l)) e

pub read-form : (l : List ℕ) (b : Bool) → length l ≡ command_size → formed (fields_in l) ≡ b → or_malformed b (command_of l) ≡ read_of l
unfolding well_formed
read-form l b e h = read-by l b (goes-past _ _ _ (eq-eqb _ _ e) (sym h))

pub read-asks : (l : List ℕ) (c : Command) → read_of l ≡ Ok c → (well_formed l ≡ true) × (command_of l ≡ c)
unfolding read_of
read-asks l c e = answered (well_formed l) (command_of l) c e

pub read-malformed : (l : List ℕ) → read_of l ≡ Err no_command → well_formed l ≡ false
unfolding read_of
read-malformed l e = refused (well_formed l) (command_of l) e

-- the command of fields that are, or are not, those of a wide move
pub command-is : (f : Fields) (b : Bool) → is_wide_move f ≡ b → command_at f ≡ cond b (WideMove (record { 0 = f.card }) f.number) (Of (call_at f))
unfolding command_at
command-is f b e = ap (λ (t : Bool). cond t (WideMove (record { 0 = f.card }) f.number) (Of (call_at f))) e

-- ---- the writer
pub writable-formed : (c : Command) → is_writable c ≡ true → formed (fields_for c) ≡ true
unfolding is_writable
writable-formed c h = and_r (is_of_case c) _ h

-- what the writer answers and leaves
abbrev pub Leaves : Result ⊤ Malformed → List ℕ → Command → List ℕ → Type 0
Leaves w l command m = (w ≡ write_of l command) × (m ≡ write_leaves l command)

write-by : (l : List ℕ) (command : Command) (b : Bool) → b ≡ is_written l command → Leaves (or_malformed b tt) l command (cond b (bytes_for command) l)
unfolding write_of
write-by l command b e = (ap (λ (t : Bool). or_malformed t tt) e, ap (λ (t : Bool). cond t (bytes_for command) l) e)

pub write-fit : (l : List ℕ) (command : Command) (b : Bool) → length l ≡ command_size → is_writable command ≡ b
    → Leaves (or_malformed b tt) l command (cond b (bytes_for command) l)
write-fit l command b e h = write-by l command b (goes-past _ _ _ (eq-eqb _ _ e) (sym h))

pub write-says : (l : List ℕ) (command : Command) → write_of l command ≡ Ok tt → is_written l command ≡ true
unfolding write_of
write-says l command e = (answered (is_written l command) tt tt e).0
