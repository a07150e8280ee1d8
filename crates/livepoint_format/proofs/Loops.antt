-- Reading one more item of many.
use Rattle.std.proofs.Common.{◌≡◌, ℕ, suc, ◌+◌, ◌-◌, ◌<◌, ◌≤◌, Result, Ok, Err, List, [], ◌∷◌, ◌++◌, refl, sym, arith}
use Rattle.std.proofs.Common.{subst}
use Rattle.std.specs.Prelude.{IsErrAnd}
use Rattle.smarts_base.specs.declared.refusal.Refusal.{Refusal}
use Rattle.smarts_base.specs.declared.refusal.Refusal.TheVariants.{Fault, NoMemory}
use Rattle.livepoint_format.specs.declared.fault.LibraryFault.{LibraryFault}
use Rattle.livepoint_format.specs.Reads.{Reads, Refuses}
use Rattle.livepoint_format.specs.Reading.{Spot, Reader, items}

module _ {A : Type 0} (item : List A → Reader A) (count i : ℕ) (before : List A) (at : Spot) where
  pub goes_on : (x : A) (after : Spot) → i < count → item before at ≡ Ok (x, after)
      → items item (count - (i + 1)) (before ++ x ∷ []) after ≡ items item (count - i) before at
  unfolding items
  goes_on x after below read =
      let one : count - i ≡ suc (count - (i + 1)) = omega arith in
      rw (one, read) refl

  pub ends : (fault : LibraryFault) → i < count → item before at ≡ Err fault
      → items item (count - i) before at ≡ Err fault
  unfolding items
  ends fault below read =
      let one : count - i ≡ suc (count - (i + 1)) = omega arith in
      rw (one, read) refl

  pub is_done : count ≤ i → items item (count - i) before at ≡ Ok (before, at)
  unfolding items
  is_done past =
      let none : count - i ≡ 0 = omega arith in
      rw none refl

refuses_items : {A : Type 0} (item : List A → Reader A) (count i : ℕ) (before : List A) (at : Spot) (refusal : Refusal LibraryFault)
    → i < count → Refuses refusal (item before at) → Refuses refusal (items item (count - i) before at)
refuses_items item count i before at (Fault fault) below refused = ends item count i before at fault below refused
refuses_items item count i before at NoMemory below refused = tt

-- a refusal of one item is that of all
pub fails : {X A : Type 0} (view : X → List A) (result : Result X (Refusal LibraryFault)) (after : Spot) (item : List A → Reader A) (count i : ℕ)
    (before : List A) (at : Spot) (refusal : Refusal LibraryFault) (whole : Result (List A × Spot) LibraryFault)
    → i < count → IsErrAnd result (λ e. e ≡ refusal) → Refuses refusal (item before at) → items item (count - i) before at ≡ whole
    → Reads view result after whole
fails view (Ok x) after item count i before at refusal whole below is refused same = absurd is
fails {X} {A} view (Err other) after item count i before at refusal whole below is refused same =
    subst (λ (r : Result (List A × Spot) LibraryFault). Refuses other r) same
    (subst (λ (e : Refusal LibraryFault). Refuses e (items item (count - i) before at)) (sym is) (refuses_items item count i before at refusal below refused))
