-- The times of the first instructions of a trace, and the cycles between two of them.
use Rattle.std.proofs.Common.{All, List, Some, ap, arith, drop, inl, inr, length, refl, subst, suc, sym, take, ℕ, ◌≡◌, ◌+◌, ◌-◌, ◌*◌, ◌^◌, ◌<◌, ◌≤◌, [], ◌∷◌, ◌++◌, ◌∙◌}
use Rattle.std.proofs.lemmas.Bool.{cases_lt}
use Rattle.std.proofs.lemmas.List.{length-drop, length-take-le, take-append-drop, take_all, take_more}
use Rattle.std.proofs.lemmas.List.Elements.{All-get_or, All-take}
use Rattle.std.proofs.lemmas.Option.{get_or_from_slice_get, slice_get_within}
use Rattle.std.specs.List.{slice_get}
use Rattle.hierarchy.specs.Marked.{IsMarked}
use Rattle.hierarchy.specs.Widths.{AreWidths}
use Rattle.hierarchy.specs.declared.marked.Marked.{Marked}
use Rattle.hierarchy.specs.declared.widths.Widths.{Widths}
use Rattle.ruu_timing.specs.Laws.{IssuesAtFirst, IssueFirst}
use Rattle.ruu_timing.specs.Timed.{AreTimed}
use Rattle.std.specs.List.{AllByRecursion}
use Rattle.ruu_timing.specs.Times.{back, cycles, issue_of, time_of, timed_after, timed_of, times}
use Rattle.ruu_timing.specs.declared.timed.Timed.{Timed}
use Rattle.ruu_timing.proofs.TimedLemmas.{next_timed, retired, retired_in_order, retired_soon, retired_wide}
use Rattle.ruu_timing.proofs.ListLemmas.{each_of}
use Rattle.ruu_timing.proofs.LawsLemmas.{first_slot_is, issue_is_least}

-- the times of a list with one more
pub times_behind :
    (w : Widths) (earlier : List Timed) (ms : List Marked) (m : Marked)
    → timed_after w earlier (ms ++ m ∷ []) ≡ timed_of w (timed_after w earlier ms) m ∷ timed_after w earlier ms
unfolding timed_after
times_behind w earlier [] m = refl
times_behind w earlier (x ∷ ms) m = times_behind w (timed_of w earlier x ∷ earlier) ms m

pub length_after :
    (w : Widths) (earlier : List Timed) (ms : List Marked)
    → length (timed_after w earlier ms) ≡ length earlier + length ms
unfolding timed_after
length_after w earlier [] = omega arith
length_after w earlier (x ∷ ms) = omega (arith, length_after w (timed_of w earlier x ∷ earlier) ms)

pub times_more :
    (w : Widths) (ms : List Marked) (i : ℕ) (m : Marked) → slice_get ms i ≡ Some m
    → timed_of w (times w (take i ms)) m ∷ times w (take i ms) ≡ times w (take (i + 1) ms)
times_more w ms i m there =
    let within : i < length ms = slice_get_within ms i m there in
    let more : take (i + 1) ms ≡ take i ms ++ m ∷ [] =
    take_more ms i m within ∙ ap (λ (x : Marked). take i ms ++ x ∷ []) (get_or_from_slice_get ms i m m there) in
    rw more (sym (times_behind w [] (take i ms) m))

pub marked_at :
    (ms : List Marked) (i : ℕ) (m : Marked) → slice_get ms i ≡ Some m → All IsMarked ms → IsMarked m
marked_at ms i m there marks =
    let within : i < length ms = slice_get_within ms i m there in
    subst IsMarked (get_or_from_slice_get ms i m m there) (All-get_or IsMarked ms i m within marks)

pub length_times : (w : Widths) (ms : List Marked) → length (times w ms) ≡ length ms
length_times w ms = omega (arith, length_after w [] ms)

pub few_times :
    (w : Widths) (ms : List Marked) (i : ℕ) (rows : List Timed) → i ≤ length ms → rows ≡ times w (take i ms)
    → length rows ≡ i
few_times w ms i rows le same = rw same (length_times w (take i ms) ∙ length-take-le i ms le)

pub whole_times :
    (w : Widths) (ms : List Marked) (i : ℕ) (rows : List Timed) → length ms ≤ i → rows ≡ times w (take i ms)
    → rows ≡ times w ms
whole_times w ms i rows le same = same ∙ ap (λ (l : List Marked). times w l) (take_all i ms le)

-- from the one k back to the last
abbrev pub retired_back : List Timed → ℕ → ℕ
retired_back rows k = time_of (λ x. x.retirement) (back rows k)

pub total_known : (rows : List Timed) (k : ℕ) → AreTimed rows → 1 ≤ k → retired_back rows k ≤ retired_back rows 1
total_known rows k timed le = retired_in_order rows 0 (k - 1) timed.order (omega arith)

pub total_least :
    (rows : List Timed) (k : ℕ) → AreTimed rows → 0 < length rows → 17 ≤ k
    → 1 ≤ retired_back rows 1 - retired_back rows k
total_least rows k timed some le =
    let h : retired rows (k - 1) < retired rows 0 = retired_wide rows (k - 1) timed.order (omega arith) some in
    omega arith

pub total_most :
    (rows : List Timed) (k : ℕ) → AreTimed rows → k ≤ 10001
    → retired_back rows 1 - retired_back rows k < 2 ^ 26
total_most rows k timed le =
    let h : retired rows 0 ≤ retired rows (k - 1) + 4096 * (k - 1) = retired_soon rows (k - 1) timed.order in
    omega arith

-- every trace has times within their bounds
pub after_timed :
    (w : Widths) (earlier : List Timed) (ms : List Marked) → AreWidths w → AreTimed earlier
    → length earlier + length ms ≤ 110000 → AllByRecursion IsMarked ms → AreTimed (timed_after w earlier ms)
unfolding timed_after
after_timed w earlier [] widths timed few marks = timed
after_timed w earlier (m ∷ ms) widths timed few marks =
    after_timed w (timed_of w earlier m ∷ earlier) ms widths
    (next_timed w earlier m widths marks.0 timed (omega arith)) (omega arith) marks.1

pub issues_at_first : IssuesAtFirst
issues_at_first w ms class ready widths few marks =
    let none : AreTimed [] = record { each = tt; order = tt; few = omega arith } in
    let timed : AreTimed (times w ms) = after_timed w [] ms widths none (omega arith) (each_of IsMarked ms marks) in
    first_slot_is w (times w ms) class ready (issue_of w (times w ms) class ready)
    (issue_is_least w (times w ms) class ready widths timed)

few_taken : (ms : List Marked) (n : ℕ) → length ms ≤ 110000 → length (take n ms) ≤ 110000
few_taken ms n few = elim (cases_lt (length ms) n) [
  | inl past ↦ let all : take n ms ≡ ms = take_all n ms (omega arith) in rw all few
  | inr within ↦ let count : length (take n ms) ≡ n = length-take-le n ms within in omega arith
]

-- so each instruction of a trace does
pub issue_first :
    (w : Widths) (ms : List Marked) → AreWidths w → length ms ≤ 110000 → All IsMarked ms
    → IssueFirst w ms
issue_first w ms widths few marks place class ready =
    issues_at_first w (take place ms) class ready widths (few_taken ms place few)
    (All-take IsMarked place ms marks)

-- the times of the first ones stand behind those of the others
pub after_both :
    (w : Widths) (earlier : List Timed) (ms ns : List Marked)
    → timed_after w earlier (ms ++ ns) ≡ timed_after w (timed_after w earlier ms) ns
unfolding timed_after
after_both w earlier [] ns = refl
after_both w earlier (m ∷ ms) ns = after_both w (timed_of w earlier m ∷ earlier) ms ns

behind :
    (w : Widths) (earlier : List Timed) (ms : List Marked) (k : ℕ)
    → slice_get (timed_after w earlier ms) (length ms + k) ≡ slice_get earlier k
unfolding timed_after
behind w earlier [] k = let e : 0 + k ≡ k = omega arith in rw e refl
behind w earlier (m ∷ ms) k =
    let e : length (m ∷ ms) + k ≡ length ms + suc k = omega arith in
    rw e (behind w (timed_of w earlier m ∷ earlier) ms (suc k))

-- the last of the first `skip` ones, found in the whole trace
pub last_before :
    (w : Widths) (ms : List Marked) (skip : ℕ) → skip < length ms
    → retired_back (times w (take skip ms)) 1 ≡ retired_back (times w ms) (length ms - skip + 1)
last_before w ms skip within =
    let whole : times w ms ≡ timed_after w (times w (take skip ms)) (drop skip ms) =
    ap (λ (l : List Marked). times w l) (sym (take-append-drop skip ms)) ∙ after_both w [] (take skip ms) (drop skip ms) in
    let place : length ms - skip + 1 - 1 ≡ length (drop skip ms) + 0 = omega (arith, length-drop skip ms) in
    rw (place, whole, behind w (times w (take skip ms)) (drop skip ms) 0) refl

-- the cycles between two retirements
pub record AreCycles (w : Widths) (ms : List Marked) (skip total : ℕ) : Type 0 where
  pub cycles : total ≡ cycles w ms skip
  pub least : skip + 16 ≤ length ms → 1 ≤ total
  pub most : length ms ≤ skip + 10000 → total < 2 ^ 26

pub cycles_between :
    (w : Widths) (ms : List Marked) (skip before last : ℕ) → skip < length ms → AreTimed (times w ms)
    → before ≡ retired_back (times w (take skip ms)) 1 → last ≡ retired_back (times w ms) 1
    → AreCycles w ms skip (last - before)
unfolding cycles
cycles_between w ms skip before last within timed first second =
    let rows : List Timed = times w ms in
    let k : ℕ = length ms - skip + 1 in
    let early : before ≡ retired_back rows k = first ∙ last_before w ms skip within in
    record {
      cycles = rw (early, second) refl;
      least = λ far.
          rw (early, second) (total_least rows k timed (omega (arith, length_times w ms, within)) (omega arith));
      most = λ near. rw (early, second) (total_most rows k timed (omega arith));
    }
