-- Bytes given and taken piece by piece are those given and taken at once.
use Rattle.std.proofs.Common.{◌≡◌, ◌≤◌, ◌+◌, ◌-◌, ◌++◌, ℕ, List, [], length, take, drop, Option, Some, None, IfSome, refl, sym, ap, ◌∙◌}
use Rattle.std.proofs.lemmas.List.{append-nil, append_assoc, take-append-drop, take_all, take_at, take_rest, drop-drop, length-take-le}
use Rattle.std.proofs.Math.Seq.{take-add}
use Rattle.std.specs.Io.KnownBytes.{prepend_known, append_known}
use Rattle.smarts_io.specs.Bytes.{Gives, Takes, IsAtEnd, cut_past}

-- one piece, and then another
pub gives_more :
    (old mid new : Option (List ℕ)) (front piece : List ℕ)
    → Gives old front mid → Gives mid piece new → Gives old (front ++ piece) new
gives_more old mid None front piece first second = first ∙ ap (prepend_known front) second
gives_more old mid (Some bytes) front piece first second =
    first ∙ ap (prepend_known front) second ∙ ap (λ (l : List ℕ). Some l) (sym (append_assoc front piece bytes))

-- the bytes so far, with one more piece behind them
pub gives_appended :
    (old mid new : Option (List ℕ)) (front all : List ℕ)
    → Gives old front mid → (piece : List ℕ) × Gives mid piece new × (all ≡ front ++ piece)
    → Gives old all new
gives_appended old mid new front all first next =
    gives_more old mid new front next.0 first next.1
    ∙ ap (λ (l : List ℕ). prepend_known l new) (sym next.2)

-- nothing taken yet
pub takes_none : (taken : Option (List ℕ)) → Takes taken [] taken
takes_none None = refl
takes_none (Some bytes) = ap (λ (l : List ℕ). Some l) (sym (append-nil bytes))

-- the next so many bytes of a list, behind those before them
pub takes_next :
    (old mid new : Option (List ℕ)) (piece : List ℕ) (done count : ℕ)
    → Takes old (take done piece) mid
    → Takes mid (take count (take (length piece - done) (drop done piece))) new
    → Takes old (take (done + count) piece) new
takes_next None mid new piece done count first second =
    second ∙ ap (λ (o : Option (List ℕ)). append_known o (take count (take (length piece - done) (drop done piece)))) first
takes_next (Some bytes) mid new piece done count first second =
    let next : List ℕ = take count (drop done piece) in
    second
    ∙ ap (λ (l : List ℕ). append_known mid (take count l)) (take_rest piece done)
    ∙ ap (λ (o : Option (List ℕ)). append_known o next) first
    ∙ ap (λ (l : List ℕ). Some l)
    (append_assoc bytes (take done piece) next
    ∙ ap (λ (l : List ℕ). bytes ++ l) (sym (take-add done count piece)))

-- what was given up to the end of the input is all of it
pub gives_all :
    (old new : Option (List ℕ)) (given : List ℕ) (limit : ℕ)
    → Gives old given new → IsAtEnd new → length given ≤ limit + 1
    → IfSome old (λ rest. given ≡ cut_past limit rest)
unfolding cut_past
gives_all None new given limit gives ended small = tt
gives_all (Some bytes) None given limit gives ended small = cc
gives_all (Some bytes) (Some left) given limit gives ended small =
    let parts : bytes ≡ given ++ left = cc in
    let whole : bytes ≡ given =
    parts ∙ ap (λ (l : List ℕ). given ++ l) ended ∙ append-nil given in
    sym (ap (take (limit + 1)) whole ∙ take_all (limit + 1) given small)

-- what was given up to the limit is cut there
pub gives_cut :
    (old new : Option (List ℕ)) (given : List ℕ) (limit : ℕ)
    → Gives old given new → length given ≡ limit + 1
    → IfSome old (λ rest. given ≡ cut_past limit rest)
unfolding cut_past
gives_cut None new given limit gives full = tt
gives_cut (Some bytes) None given limit gives full = cc
gives_cut (Some bytes) (Some left) given limit gives full =
    let parts : bytes ≡ given ++ left = cc in
    sym (ap (take (limit + 1)) parts ∙ take_at given left (limit + 1) full)

-- the front of what is left, as it stands in a buffer, and what is left behind it
pub give_front :
    (bytes front behind : List ℕ) (at count : ℕ) → count ≤ length (drop at bytes)
    → front ≡ take count (drop at bytes)
    → drop at bytes ≡ take count (front ++ behind) ++ drop (at + count) bytes
give_front bytes front behind at count h same =
    let wide : length front ≡ count = ap length same ∙ length-take-le count (drop at bytes) h in
    let cut : take count (front ++ behind) ≡ take count (drop at bytes) =
    take_at front behind count wide ∙ same in
    sym (take-append-drop count (drop at bytes))
    ∙ ap (λ (l : List ℕ). l ++ drop count (drop at bytes)) (sym cut)
    ∙ ap (λ (l : List ℕ). take count (front ++ behind) ++ l) (drop-drop count at bytes)
