-- The answers of some points and of more.
use Rattle.std.proofs.Common.{◌≡◌, ◌≤◌, Option, Some, subst, ◌∷◌, Result, Ok, Err, ◌+◌, false, arith, length-append, ℕ, List, [], ◌++◌, length, map, fold, take, refl, sym, ap, ◌∙◌}
use Rattle.std.specs.Prelude.{IfErr, IfOk, IfSome}
use Rattle.std.proofs.Math.Seq.{take-length}
use Rattle.std.proofs.lemmas.List.Sums.{fold-append}
use Rattle.std.proofs.lemmas.List.{map-append}
use Rattle.confidence.specs.declared.answer.Answer.{Answer}
use Rattle.live_points.specs.PointAnswers.{point_answer}
use Rattle.livepoint_format.specs.Values.{Head, Point}
use Rattle.ordered_fold.specs.Batch.{fold_from}
use Rattle.ordered_fold.specs.Front.{folded, is_going}
use Rattle.ordered_fold.specs.declared.ending.Ending.TheVariants.{Going}
use Rattle.ordered_fold.specs.declared.front.Front.{Front as Fold}
use Rattle.ordered_fold.proofs.Folds.{fold-ended}
use Rattle.library_fold.specs.Folding.{AreFor, with_answers}
use Rattle.library_reader.specs.Reader.{Front}
use Rattle.window_sim.specs.Desk.{Setup}
use Rattle.workers.specs.Crew.{Alike}

pub answers_behind :
    (setup : Setup) (start : Fold) (some more : List Point)
    → with_answers setup (with_answers setup start some) more ≡ with_answers setup start (some ++ more)
answers_behind setup start some more =
    sym (ap (fold folded start) (map-append (point_answer setup.config setup.header) some more)
    ∙ fold-append folded start (map (point_answer setup.config setup.header) some) (map (point_answer setup.config setup.header) more))

pub fold_is : (start : Fold) (answers : List Answer) → fold_from start answers (length answers) ≡ fold folded start answers
unfolding fold_from
fold_is start answers = ap (fold folded start) (take-length answers)

pub fold_over :
    (setup : Setup) (start : Fold) (points : List Point) → is_going start.ending ≡ false
    → start ≡ with_answers setup start points
fold_over setup start points ended = sym (fold-ended start (map (point_answer setup.config setup.header) points) ended)

-- from one fold to another the answers of these points were folded, at desks for the same
pub record IsFolding (was now : Fold) (old new : List Setup) (points : List Point) : Type 0 where
  pub folded : (setup : Setup) → Alike (λ (desk : Setup). desk) setup old → now ≡ with_answers setup was points
  pub going : now.ending ≡ Going → now.sums.n ≡ was.sums.n + length points
  pub total : now.total ≡ was.total
  pub alike : (setup : Setup) → Alike (λ (desk : Setup). desk) setup old → Alike (λ (desk : Setup). desk) setup new

pub folding_none : (was : Fold) (old : List Setup) → IsFolding was was old old []
folding_none was old = record {
  folded = λ setup alike. refl;
  going = λ goes. omega arith;
  total = refl;
  alike = λ setup alike. alike;
}

pub folding_behind :
    (was mid now : Fold) (old between new : List Setup) (some more : List Point)
    → IsFolding was mid old between some → IsFolding mid now between new more → (now.ending ≡ Going → mid.ending ≡ Going)
    → IsFolding was now old new (some ++ more)
folding_behind was mid now old between new some more one two goes = record {
  folded = λ setup alike.
      two.folded setup (one.alike setup alike)
      ∙ ap (λ (start : Fold). with_answers setup start more) (one.folded setup alike)
      ∙ answers_behind setup was some more;
  going = λ still. omega (arith, two.going still, one.going (goes still), length-append some more);
  total = two.total ∙ one.total;
  alike = λ setup alike. two.alike setup (one.alike setup alike);
}

pub fold_empty : (setup : Setup) (start : Fold) (points : List Point) → length points ≡ 0 → start ≡ with_answers setup start points
fold_empty setup start [] none = refl
fold_empty setup start (point ∷ points) none = absurd (omega (arith, none))

-- ---- answers of a call

pub ok_on : {A E : Type 0} (result : Result A E) (P Q : A → Type 0) → ((a : A) → P a → Q a) → IfOk result P → IfOk result Q
ok_on (Ok a) P Q on holds = on a holds
ok_on (Err e) P Q on holds = tt

pub either_way : {A E : Type 0} (result : Result A E) (P : Type 0) → IfOk result (λ _. P) → IfErr result (λ _. P) → P
either_way (Ok a) P ok err = ok
either_way (Err e) P ok err = err

pub err_as : {A E : Type 0} (result : Result A E) (P Q : E → Type 0) → ((e : E) → P e → Q e) → IfErr result P → IfErr result Q
err_as (Ok a) P Q on holds = tt
err_as (Err e) P Q on holds = on e holds

-- ---- the header's points

pub few_in :
    (setup : Setup) (old mid : Option Front) (count : ℕ) → AreFor setup old → mid ≡ old → IfSome mid (λ f. count ≤ f.0.points)
    → count ≤ setup.header.points
few_in setup old mid count for same few =
    let there : IfSome (Some for.of) (λ f. count ≤ f.0.points) =
    subst (λ (front : Option Front). IfSome front (λ f. count ≤ f.0.points)) (same ∙ for.front_is) few in
    omega (arith, there, ap (λ (h : Head). h.points) for.head)
