-- The laws that finish get, store and delete. Assumes nothing.
use Prim.Native.Nat.{◌/◌, ◌<◌, ℕ}
use lib.Dec.{ltb}
use mathlib.Core.Bool.{Bool, ◌&&◌, cond, false, true}
use mathlib.Core.List.{List, [], ◌∷◌}
use mathlib.Core.Logic.{◌≢◌}
use mathlib.Core.Option.{Option, none, some}
use mathlib.Core.Path.{◌∙◌, ◌≡◌, ap, refl, sym}
use Rattle.image.specs.Layout.{record_count, slot_count, tran_bound}
use Rattle.image.specs.Parts.{Whole}
use Rattle.slot.specs.Words.{state_of}
use Rattle.slot.specs.declared.Entry.{Entry}
use Rattle.method.specs.Rules.{Answer, Plan, absent, act, delete, get, lay_block, lock_holders, look, ok, refusal, reply}
use Rattle.method.specs.Rules.{store, store_writes, unwritten, writing}
use Rattle.method.specs.Slots.{is_none, read_by}
use Rattle.method.proofs.Refusals.{row-3}
use Rattle.control_form.specs.ControlForm.{control_form, form_rows}
use Rattle.cabinet_rules.specs.Cabinet.{cabinet, tran_ok}
use Rattle.cabinet_rules.specs.Delivery.{storable}
use Rattle.cabinet_rules.specs.Images.{Image, Writes, control_in, refusal_by, refusal_on, state_in}
use Rattle.promise.specs.Promise.{Done}
use Rattle.promise.specs.Promise.{said}
use Rattle.promise.specs.declared.Answer.{Answer as AnswerValue}
use Rattle.promise.specs.declared.Answer.TheVariants.{Absent, Accepted}
use Rattle.std.specs.Prelude.{Result, Ok}
use Rattle.refusals.specs.Refusals.{number}
use Rattle.refusals.specs.declared.Refusal.{Refusal}
use Rattle.refusals.proofs.HandedOn.{HandsOn, handed-on}
use Rattle.promise.proofs.Finish.{by_blocks, by-look, by_row, form-long}
use Rattle.promise.specs.Laid.{laid}
use Rattle.trail.specs.Trail.{holders_in}
use Rattle.trail.proofs.Listed.{none-listed, some-listed}
use Rattle.records.specs.Access.{Prepared, with_value}
use Rattle.records.specs.Slots.{seen_in}
use Rattle.records.specs.declared.access.Access.{Access}
use Rattle.records.proofs.LookUp.{delete-rows, store-rows}
use Rattle.records.proofs.Rows.{rec-lt, tran-lt}
use Rattle.records.proofs.Values.{with-table}

-- ---- refused
module _ (g : Image) (t r : ℕ) (x : Refusal) (e : number x ≡ refusal_on (get t r) g) (a : Result AnswerValue Refusal) (h : HandsOn x a) where
  pub get_refused : Done (get t r) g a g
  get_refused = rw (handed-on a h) (by_row (get t r) g x e)

  pub delete-refused : Done (delete t r) g a g
  delete-refused = rw (handed-on a h)
      (by_row (delete t r) g x (e ∙ unfold refusal_by in (ap (form_rows false (control_form g) g) (delete-rows (control_in g) (look cabinet (state_in g)) t r))))

pub store-refused : (g : Image) (t r n : ℕ) (x : Refusal) (l : ℕ) → number x ≡ with_value (storable n) l → l ≡ refusal_on (get t r) g
    → (a : Result AnswerValue Refusal) → HandsOn x a → Done (store t r n) g a g
store-refused g t r n x l e is a h = rw (handed-on a h) (by_row (store t r n) g x (e ∙ ap (with_value (storable n)) is ∙ with-table g t r n))

-- ---- accepted
module _ (g : Image) (t r : ℕ) (a : Access) (ready : Prepared g t r a) where
  pub whole : Whole g
  whole = form-long g ready.formed

  ranges : (tran_ok t && ltb r record_count) ≡ true
  unfolding refusal
  ranges = (row-3 (tran_ok t && ltb r record_count) (sym ready.accepted)).0

  pub tran-fits : t < tran_bound
  tran-fits = tran-lt t r ranges

  pub rec-fits : r < record_count
  rec-fits = rec-lt t r ranges

  -- get: what is read
  pub get-done : (s : Entry) (x : AnswerValue) → state_of s ≡ read_by t (seen_in g r) → said x ≡ reply cabinet (state_of s) → Done (get t r) g (Ok x) g
  get-done s x e f = by-look (get t r) refl g ready.formed x ready.accepted
      (unfold act in (ap (λ (y : Answer cabinet). unwritten cabinet y (control_in g)) (sym (f ∙ ap (reply cabinet) e))))

  -- store: a new block, or the holders' slots
  store-done : (n : ℕ) → storable n ≡ true → (w : Writes) (behind : Image) → store_writes cabinet (control_in g) (look cabinet (state_in g)) t r n (holders_in g (r / slot_count)) ≡ w
      → behind ≡ laid w g → Done (store t r n) g (Ok Accepted) behind
  store-done n h w behind e l = by_blocks (store t r n) refl g ready.formed Accepted w behind (ready.accepted ∙ store-rows (control_in g) (look cabinet (state_in g)) t r n h)
      (unfold act in (ap (writing cabinet ok (control_in g)) e)) l

  pub store-new : (n : ℕ) → storable n ≡ true → (behind : Image) → a.holders.cards ≡ 0
      → behind ≡ laid (lay_block cabinet (control_in g) t r (some n)) g → Done (store t r n) g (Ok Accepted) behind
  store-new n h behind z l = store-done n h (lay_block cabinet (control_in g) t r (some n)) behind
      (ap (store_writes cabinet (control_in g) (look cabinet (state_in g)) t r n) (none-listed ready.holders-are z)) l

  pub store-held : (n : ℕ) → storable n ≡ true → (behind : Image) → a.holders.cards < 256 → a.holders.cards ≢ 0
      → behind ≡ laid (lock_holders cabinet (control_in g) (look cabinet (state_in g)) t r (some n)) g → Done (store t r n) g (Ok Accepted) behind
  store-held n h behind small d l = store-done n h (lock_holders cabinet (control_in g) (look cabinet (state_in g)) t r (some n)) behind
      (go (holders_in g (r / slot_count)) (some-listed ready.holders-are small d)) l
    where
      go : (l : List ℕ) → l ≢ [] → store_writes cabinet (control_in g) (look cabinet (state_in g)) t r n l ≡ lock_holders cabinet (control_in g) (look cabinet (state_in g)) t r (some n)
      go [] k = absurd (k refl)
      go (c ∷ l) k = refl

  -- delete: what is read decides
  delete-plan : (s : Entry) (b : Bool) → state_of s ≡ read_by t (seen_in g r) → s.present ≡ b
      → act cabinet (delete t r) (control_in g) (look cabinet (state_in g))
      ≡ cond b (writing cabinet ok (control_in g) (lock_holders cabinet (control_in g) (look cabinet (state_in g)) t r none)) (unwritten cabinet absent (control_in g))
  unfolding act
  delete-plan s b e p = ap (λ (o : Option ℕ). cond (is_none o) idle locks) (sym e ∙ ap (λ (x : Bool). cond x (some s.value) none) p) ∙ go b
    where
      idle : Plan cabinet
      idle = unwritten cabinet absent (control_in g)

      locks : Plan cabinet
      locks = writing cabinet ok (control_in g) (lock_holders cabinet (control_in g) (look cabinet (state_in g)) t r none)

      go : (x : Bool) → cond (is_none (cond x (some s.value) none)) idle locks ≡ cond x locks idle
      go true = refl
      go false = refl

  pub delete-absent : (s : Entry) → state_of s ≡ read_by t (seen_in g r) → s.present ≡ false → Done (delete t r) g (Ok Absent) g
  delete-absent s e p = by-look (delete t r) refl g ready.formed Absent (ready.accepted ∙ delete-rows (control_in g) (look cabinet (state_in g)) t r) (delete-plan s false e p)

  pub delete-done : (s : Entry) (behind : Image) → state_of s ≡ read_by t (seen_in g r) → s.present ≡ true
      → behind ≡ laid (lock_holders cabinet (control_in g) (look cabinet (state_in g)) t r none) g → Done (delete t r) g (Ok Accepted) behind
  delete-done s behind e p l = by_blocks (delete t r) refl g ready.formed Accepted (lock_holders cabinet (control_in g) (look cabinet (state_in g)) t r none) behind
      (ready.accepted ∙ delete-rows (control_in g) (look cabinet (state_in g)) t r) (delete-plan s true e p) l
