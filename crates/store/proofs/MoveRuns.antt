-- A run of moves beside its moves alone: calls that mean nothing to the rules change nothing that can be seen. Assumes nothing.
use Prim.Native.Nat.{ℕ}
use mathlib.Core.List.{List, [], ◌++◌, ◌∷◌, map}
use mathlib.Core.Path.{◌∙◌, ◌≡◌, ap, refl, sym}
use native.Mathlib.Omega.{arith}
use Rattle.method.specs.MoveList.{Entry, as_move}
use Rattle.method.specs.Rules.{Answer, Call, View}
use Rattle.method.specs.Rules.{settle}
use Rattle.method.proofs.Moves.{moved}
use Rattle.cabinet_rules.specs.Cabinet.{cabinet}
use Rattle.cabinet_rules.specs.Claims.{NoisyCall, image_after, image_after_by, image_calls, noisy}
use Rattle.cabinet_rules.specs.Delivery.{PartOf, current}
use Rattle.cabinet_rules.specs.Images.{Image, answer, next}
use Rattle.cabinet_rules.proofs.Form.{current_laws}
use Rattle.cabinet_rules.proofs.PlacingLaws.{lawful}
use Rattle.cabinet_rules.proofs.MoveLists.{move-shows}
use Rattle.cabinet_rules.proofs.MoveLists.{settle-shown}
use Rattle.cabinet_rules.proofs.Shows.{Shows, noise-shows}
use Rattle.cabinet_rules.proofs.StepsOn.{shows-return}
use Rattle.store.specs.Runs.{IsRun, RunCall, memory_left, meant_calls, memory_after, run_calls, run_steps}
use Rattle.store.proofs.OneRecordList.{Stepwise, kept-steps}

-- Calls with no noise of their own.
pub given : List (Call cabinet) → List NoisyCall
given [] = []
given (c ∷ l) = (λ n. 0, c) ∷ given l

pub calls-given : (l : List (Call cabinet)) → image_calls (given l) ≡ l
unfolding given
calls-given [] = refl
calls-given (c ∷ l) = ap (λ (t : List (Call cabinet)). c ∷ t) (calls-given l)

module _ (k : PartOf current) where
  -- Image x and what the calls leave of h show the same.
  abbrev Alike : Image → List (Call cabinet × Answer cabinet) → Image → Type 0
  Alike x l h = (w : View cabinet) × Shows current current_laws x k w × Shows current current_laws (image_after (given (map (λ s. s.0) l)) h) k w

  -- Moves on two images that show the same, and then other calls.
  steps-show : (x : Image) (ss l : List (Call cabinet × Answer cabinet)) (entries : List Entry) → map (λ s. s.0) (ss ++ l) ≡ map (as_move cabinet) entries
      → (g i h : Image) (v : View cabinet) → Shows current current_laws g k v → Shows current current_laws h k v → Stepwise ss g i
      → ((rest : List Entry) → map (λ s. s.0) l ≡ map (as_move cabinet) rest → (j : Image) (w : View cabinet) → Shows current current_laws i k w
      → Shows current current_laws j k w → Alike x l j)
      → Alike x (ss ++ l) h
  unfolding Stepwise given image_after_by
  steps-show x [] l entries a g i h v s t r behind = behind entries a h v (rw r s) t
  steps-show x ((c, said) ∷ ss) l [] a g i h v s t r behind = let z : ◌≡◌ {A = ℕ} 0 1 = cc in absurd (omega arith)
  steps-show x ((c, said) ∷ ss) l (e ∷ entries) a g i h v s t r behind =
      let p : as_move cabinet e ≡ c = cc in
      let q : map (λ s. s.0) (ss ++ l) ≡ map (as_move cabinet) entries = cc in
      steps-show x ss l entries q (next c g) i (next c (noisy (λ n. 0) h)) (moved cabinet lawful k e.card e.block v)
      (rw (sym p) (move-shows g k v s e)) (rw (sym p) (move-shows (noisy (λ n. 0) h) k v (noise-shows current current_laws (λ n. 0) h k v t) e)) r.1 behind

  -- What a run of moves leaves and what its moves alone leave show the same.
  pub moves-show : (l : List RunCall) (entries : List Entry) → run_calls l ≡ map (as_move cabinet) entries
      → (g h : Image) (v : View cabinet) → Shows current current_laws g k v → Shows current current_laws h k v → IsRun l g
      → Alike (memory_after l g) (run_steps l) h
  unfolding given IsRun memory_after image_after_by
  moves-show [] entries a g h v s t r = (v, s, t)
  moves-show (r ∷ l) entries a g h v s t e =
      steps-show (memory_after (r ∷ l) g) (meant_calls r.made) (run_steps l) entries a (noisy r.noise g) (memory_left r.made (noisy r.noise g)) h v
      here t (kept-steps r.made (noisy r.noise g) (λ c. shows-return c (noisy r.noise g) k v here) e.0)
      (λ rest b j w f m. moves-show l rest b (memory_left r.made (noisy r.noise g)) j w f m e.1)
    where
      here : Shows current current_laws (noisy r.noise g) k v
      here = noise-shows current current_laws r.noise g k v s

  -- Where two images show the same, settle answers the same.
  pub settle-same : (noise : ℕ → ℕ) (g h : Image) (v : View cabinet) → Shows current current_laws g k v → Shows current current_laws h k v
      → answer settle (noisy noise g) ≡ answer settle (noisy noise h)
  settle-same noise g h v s t = settle-shown g k v s noise ∙ sym (settle-shown h k v t noise)
