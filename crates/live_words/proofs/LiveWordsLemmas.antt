-- The words that a run touches.
use Rattle.std.proofs.Common.{◌≡◌, ℕ, List, cond, Option, Some, None, IsSome, refl, sym, ap, ◌∙◌}
use Rattle.std.specs.Prelude.{is_some}
use Rattle.std.specs.FinMap as map
use Rattle.rv_exec.specs.declared.event.Event.{Event}
use Rattle.rv_exec.specs.Memory.{Words, word_at}
use Rattle.rv_exec.specs.References.{words_found, first_found}
use Rattle.rv_exec.specs.Runs.{run_of}
use Rattle.rv_exec.proofs.RanLemmas.{first_found_is_start, runs_again}
use Rattle.live_words.specs.LiveWords.{live_words, first_values}
use Rattle.live_words.specs.Laws.{LiveWordsSuffice, FirstValuesAreTheStart}
use Rattle.live_words.proofs.MemoryLemmas.{held_first, same_words}

-- a word is live exactly where it is touched
pub live_at :
    (words : Words) (events : List Event) (addr : ℕ)
    → word_at (live_words words events) addr
    ≡ cond (is_some (first_found events addr)) (word_at words addr) None
unfolding live_words
live_at words events addr =
    map.get-retain_keys words (λ a. is_some (first_found events a)) addr
    (λ x e. ap (λ a. is_some (first_found events a)) (sym (map.nat_cmp-IsAntisymmetric addr x e)))

touched_at : (found held : Option ℕ) → IsSome found → cond (is_some found) held None ≡ held
touched_at (Some v) held touched = refl
touched_at None held touched = absurd (cc)

pub live_words_suffice : LiveWordsSuffice
live_words_suffice m n whole =
    runs_again m n (live_words m.words (run_of m n).events) whole
    (λ addr touched.
    live_at m.words (run_of m n).events addr ∙ touched_at (first_found (run_of m n).events addr) _ touched)

found_is :
    (found held : Option ℕ) → ((value : ℕ) → found ≡ Some value → held ≡ Some value)
    → found ≡ cond (is_some found) held None
found_is None held is = refl
found_is (Some value) held is = sym (is value refl)

pub first_values_are_start : FirstValuesAreTheStart
unfolding first_values
first_values_are_start m n =
    let events : List Event = (run_of m n).events in
    same_words (first_values events) (live_words m.words events)
    (λ addr.
    held_first (words_found events) addr
    ∙ found_is (first_found events addr) (word_at m.words addr) (λ value is. first_found_is_start m n addr value is)
    ∙ sym (live_at m.words events addr))
