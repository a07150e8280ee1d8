-- Exchanges of what places stand for.
use Rattle.std.proofs.Common.{◌≡◌, ◌<◌, ◌+◌, ◌-◌, ◌%◌, ℕ, zero, suc, List, length, map, set, swap, get_or, refl, sym, ap, ◌∙◌, arith}
use Rattle.std.specs.List.{range_with_len}
use Rattle.std.proofs.lemmas.List.{length-map, map-set, get_or-map}
use Rattle.std.proofs.lemmas.List.Edits.{length-swap, swap_is}
use Rattle.std.proofs.lemmas.List.FromFn.{fill_by_all, length-range_with_len}
use Rattle.sample_design.specs.Order.{exchanged, order_of}
use Rattle.smarts_base.specs.Draws.{next_state, drawn}

pub swap_mapped :
    {A : Type 0} (f : ℕ → A) (ns : List ℕ) (i j : ℕ) → i < length ns → j < length ns
    → swap (map f ns) i j ≡ map f (swap ns i j)
swap_mapped f ns i j inside within =
    let here : length (map f ns) ≡ length ns = length-map ns f in
    let d = f 0 in
    sym (swap_is (map f ns) i j d (omega (arith, here)) (omega (arith, here)))
    ∙ ap (λ x. set (set (map f ns) i x) j (get_or (map f ns) i d)) (get_or-map f ns j 0 d within)
    ∙ ap (λ x. set (set (map f ns) i (f (get_or ns j 0))) j x) (get_or-map f ns i 0 d inside)
    ∙ ap (λ l. set l j (f (get_or ns i 0))) (sym (map-set f ns i (get_or ns j 0)))
    ∙ sym (map-set f (set ns i (get_or ns j 0)) j (get_or ns i 0))
    ∙ ap (map f) (swap_is ns i j 0 inside within)

-- all stand in their own places
pub each_is : {A : Type 0} (xs : List A) (d : A) → xs ≡ map (λ p. get_or xs p d) (range_with_len 0 (length xs))
each_is xs d = fill_by_all (λ p. get_or xs p d) xs (length xs) d refl (λ k h. refl)

length_exchanged : (i state : ℕ) (places : List ℕ) → length (exchanged i state places) ≡ length places
unfolding exchanged
length_exchanged zero state places = refl
length_exchanged (suc i) state places =
    length_exchanged i (next_state state) (swap places (suc i) (drawn state % (suc i + 1)))
    ∙ length-swap places (suc i) (drawn state % (suc i + 1))

pub order_len : (n seed : ℕ) → length (order_of n seed) ≡ n
unfolding order_of
order_len n seed = length_exchanged (n - 1) seed (range_with_len 0 n) ∙ length-range_with_len 0 n
