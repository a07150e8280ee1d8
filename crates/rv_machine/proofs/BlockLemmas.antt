-- Lists of words of which only a front is filled, with zeros behind it.
use Rattle.std.proofs.Common.{◌≡◌, ◌<◌, ◌≤◌, ◌+◌, ◌-◌, ℕ, List, ◌++◌, length, take, Some, None, sym, ap, ◌∙◌, arith, append_assoc, length-append}
use Rattle.std.specs.Prelude.{replicate, slice_get, slice_index, slice_set}
use Rattle.std.proofs.lemmas.List.{take_all, length-replicate, replicate-append-replicate, get_or-replicate, get_or-append-add, set-append_left}
use Rattle.std.proofs.lemmas.Option.{slice_get-get_or, slice_get_past}
use Rattle.rv_machine.specs.Start.{zeros}

pub length_zeros : (n : ℕ) → length (zeros n) ≡ n
unfolding zeros
length_zeros n = length-replicate n 0

-- how many words there are
pub length_words :
    (items : List ℕ) (len size : ℕ)
    → len ≡ length items → len ≤ size → length (items ++ zeros (size - len)) ≡ size
length_words items len size is within =
    length-append items (zeros (size - len))
    ∙ ap (λ n. length items + n) (length_zeros (size - len)) ∙ (omega arith)

-- a word behind the front, and none
pub zero_read : (n i : ℕ) → i < n → slice_index (zeros n) i ≡ 0
unfolding zeros
zero_read n i h = get_or-replicate n i 0 0 h

pub zero_word :
    (items : List ℕ) (at more : ℕ)
    → length items ≤ at → at < length items + more → slice_get (items ++ zeros more) at ≡ Some 0
zero_word items at more behind within =
    let all : length (items ++ zeros more) ≡ length items + more =
    length-append items (zeros more) ∙ ap (λ n. length items + n) (length_zeros more) in
    let place : at ≡ length items + (at - length items) = omega arith in
    slice_get-get_or (items ++ zeros more) at 0 (omega arith)
    ∙ ap Some (ap (slice_index (items ++ zeros more)) place
    ∙ get_or-append-add items (zeros more) (at - length items) 0
    ∙ zero_read more (at - length items) (omega arith))

pub no_word :
    (items : List ℕ) (at len size : ℕ)
    → len ≡ length items → len ≤ size → size ≤ at
    → slice_get (items ++ zeros (size - len)) at ≡ None
no_word items at len size is within past =
    let all : length (items ++ zeros (size - len)) ≡ size = length_words items len size is within in
    slice_get_past (items ++ zeros (size - len)) at (omega arith)

zeros_twice : (n m : ℕ) → replicate n 0 ++ zeros m ≡ zeros (n + m)
unfolding zeros
zeros_twice n m = replicate-append-replicate n m 0

-- a word of the front that is changed
pub front_set :
    (items : List ℕ) (at value more : ℕ) → at < length items
    → slice_set items at value ++ zeros more ≡ slice_set (items ++ zeros more) at value
front_set items at value more h = sym (set-append_left items (zeros more) at value h)

-- a longer front
pub longer_front :
    (items : List ℕ) (len n size : ℕ)
    → len ≡ length items → len ≤ n → n ≤ size
    → (take n items ++ replicate (n - len) 0) ++ zeros (size - n) ≡ items ++ zeros (size - len)
longer_front items len n size is more within =
    let all : take n items ≡ items = take_all n items (omega arith) in
    let sum : n - len + (size - n) ≡ size - len = omega arith in
    rw all (append_assoc items (replicate (n - len) 0) (zeros (size - n))
    ∙ ap (λ zs. items ++ zs) (zeros_twice (n - len) (size - n) ∙ ap zeros sum))
