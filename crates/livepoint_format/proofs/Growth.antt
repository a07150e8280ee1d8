-- What stays of a reader's answer when bytes come in behind.
use Rattle.std.proofs.Common.{◌≡◌, ℕ, zero, suc, ◌+◌, ◌^◌, ◌≤◌, Bool, true, false, ltb, cond, Result, Ok, Err, List, [], ◌∷◌, ◌++◌, length, take, drop, refl, sym, ap, ◌∙◌, arith, le-ltb, ltb-false, length-append, length-drop}
use Rattle.std.specs.Int.{Width, w8, w32, w64, byte_len, from_le_bytes}
use Rattle.std.proofs.lemmas.List.{take-append-le, drop-append-le}
use Rattle.lru_plain.specs.Shape.{Shape, sets_of}
use Rattle.predictor.specs.declared.kind.PredictorKind.{PredictorKind}
use Rattle.hierarchy.specs.declared.places.Places.{Places}
use Rattle.livepoint_format.specs.declared.fault.LibraryFault.{LibraryFault}
use Rattle.livepoint_format.specs.declared.fault.LibraryFault.TheVariants as faults
use Rattle.livepoint_format.specs.declared.entries.Which.{Which}
use Rattle.livepoint_format.specs.Reading.{Spot, Reader, done, onward, ◌>>=◌, number, judged, demanded, items, counted}
use Rattle.livepoint_format.specs.Growing.{longer, Stays, Grows}
use Rattle.livepoint_format.specs.Values.{Head}
use Rattle.livepoint_format.specs.Format.{is_first}
use Rattle.livepoint_format.specs.Decoding.{bad_field, field, pair_at, geometry_at, geometries_at, kind_read, kinds_count, head_at, table_at, header_at, parts_at, merged_at, words_at, entry_after, set_at, set_after, snapshot_at, snapshots_at, target_after, image_at, point_at, end_at, whole_at}

-- more bytes don't mend it
abbrev is_final : LibraryFault → Bool
is_final (faults.Truncated end) = false
is_final fault = true

final_stays : {A : Type 0} (fault : LibraryFault) (more : List ℕ) (at : Spot) (after : Result (A × Spot) LibraryFault)
    → is_final fault ≡ true → after ≡ Err fault → Stays more at (Err fault) after
final_stays (faults.Truncated end) more at after final e = absurd cc
final_stays fault more at after final e = e

abbrev end_of : Spot → ℕ
end_of at = at.place + length at.rest

stays_there : {A : Type 0} (r after : Result (A × Spot) LibraryFault) (more : List ℕ) (at other : Spot) → end_of at ≡ end_of other
    → Stays more at r after → Stays more other r after
stays_there (Ok x) after more at other same h = h
stays_there (Err (faults.Truncated end)) after more at other same h = h ∙ same
stays_there (Err fault) after more at other same h = h

err_onward : {A B : Type 0} (fault : LibraryFault) (after : Result (A × Spot) LibraryFault) (next : A → Reader B) (more : List ℕ) (at : Spot)
    → Stays more at (Err fault) after → Stays {A = B} more at (Err fault) (onward after next)
err_onward (faults.Truncated end) after next more at h = h
err_onward {A} {B} fault after next more at h = ap (λ (r : Result (A × Spot) LibraryFault). onward r next) h

record SumsUp {A B : Type 0} (r : Result (A × Spot) LibraryFault) (next : A → Reader B) (y : B) (after : Spot) : Type 0 where
  x : A
  middle : Spot
  first : r ≡ Ok (x, middle)
  then : next x middle ≡ Ok (y, after)

sums_up : {A B : Type 0} (r : Result (A × Spot) LibraryFault) (next : A → Reader B) (y : B) (after : Spot)
    → onward r next ≡ Ok (y, after) → SumsUp r next y after
sums_up (Ok x) next y after e = record { x = x.0; middle = x.1; first = refl; then = e }
sums_up (Err fault) next y after e = absurd cc

pub grows_then : {A B : Type 0} {read : Reader A} {next : A → Reader B} → Grows read → ((x : A) → Grows (next x)) → Grows (read >>= next)
grows_then {A} {B} {read} {next} first rest = record {
  stays = λ at more. go at more (read at) refl (first.stays at more);
  sum = λ at y after e.
      let s : SumsUp (read at) next y after = sums_up (read at) next y after e in
      (rest s.x).sum s.middle y after s.then ∙ first.sum at s.x s.middle s.first;
}
  where
    go : (at : Spot) (more : List ℕ) (r : Result (A × Spot) LibraryFault) → read at ≡ r → Stays more at r (read (longer at more))
        → Stays more at (onward r next) (onward (read (longer at more)) next)
    go at more (Ok x) is h =
        let same : end_of x.1 ≡ end_of at = first.sum at x.0 x.1 is in
        rw h (stays_there (next x.0 x.1) (next x.0 (longer x.1 more)) more x.1 at same ((rest x.0).stays x.1 more))
    go at more (Err fault) is h = err_onward fault (read (longer at more)) next more at h

pub grows_done : {A : Type 0} (x : A) → Grows (done x)
grows_done {A} x = record {
  stays = λ at more. refl;
  sum = λ at y after e.
      let pair : A × Spot = (x, at) in
      let same : pair ≡ (y, after) = cc in
      let spot : at ≡ after = ap (λ (p : A × Spot). p.1) same in
      ap end_of (sym spot);
}

abbrev number_result : (w : Width) (at : Spot) → Bool → Result (ℕ × Spot) LibraryFault
number_result w at b =
    cond b (Err (faults.Truncated (at.place + length at.rest)))
    (Ok (from_le_bytes w (take (byte_len w) at.rest), record { place = at.place + byte_len w; rest = drop (byte_len w) at.rest }))

pub grows_number : (w : Width) → Grows (number w)
grows_number w = record {
  stays = λ at more. go at more (ltb (length at.rest) (byte_len w)) refl;
  sum = λ at n after e. added at n after (ltb (length at.rest) (byte_len w)) refl e;
}
  where
    go : (at : Spot) (more : List ℕ) (b : Bool) → ltb (length at.rest) (byte_len w) ≡ b
        → Stays more at (number_result w at b) (number w (longer at more))
    go at more true test = refl
    go at more false test =
        let there : byte_len w ≤ length at.rest = ltb-false _ _ test in
        let enough : byte_len w ≤ length (at.rest ++ more) = omega (arith, length-append at.rest more) in
        rw (le-ltb (length (at.rest ++ more)) (byte_len w) enough, take-append-le (byte_len w) at.rest more there, drop-append-le (byte_len w) at.rest more there) refl

    added : (at : Spot) (n : ℕ) (after : Spot) (b : Bool) → ltb (length at.rest) (byte_len w) ≡ b
        → number_result w at b ≡ Ok (n, after) → end_of after ≡ end_of at
    added at n after true test e = absurd cc
    added at n after false test e =
        let there : byte_len w ≤ length at.rest = ltb-false _ _ test in
        let next : Spot = record { place = at.place + byte_len w; rest = drop (byte_len w) at.rest } in
        let pair : ℕ × Spot = (from_le_bytes w (take (byte_len w) at.rest), next) in
        let same : pair ≡ (n, after) = cc in
        let spot : next ≡ after = ap (λ (p : ℕ × Spot). p.1) same in
        ap end_of (sym spot) ∙ omega (arith, length-drop (byte_len w) at.rest)

tested_grows : {A : Type 0} (test : A → Bool) (fault : ℕ → LibraryFault) → ((place : ℕ) → is_final (fault place) ≡ true)
    → (at : Spot) (more : List ℕ) (x : A) (middle : Spot) (b : Bool) → test x ≡ b
    → Stays more at (cond b (Ok (x, middle)) (Err (fault at.place)))
    (cond (test x) (Ok (x, longer middle more)) (Err (fault at.place)))
tested_grows test fault final at more x middle true e = rw e refl
tested_grows test fault final at more x middle false e = final_stays (fault at.place) more at _ (final at.place) (rw e refl)

pub grows_judged : {A : Type 0} {read : Reader A} (test : A → Bool) (fault : ℕ → LibraryFault) → ((place : ℕ) → is_final (fault place) ≡ true)
    → Grows read → Grows (judged test fault read)
grows_judged {A} {read} test fault final grows = record {
  stays = λ at more. go at more (read at) refl (grows.stays at more);
  sum = λ at x after e. added at x after (read at) refl e;
}
  where
    checked : Spot → A → Reader A
    checked at x middle = cond (test x) (Ok (x, middle)) (Err (fault at.place))

    go : (at : Spot) (more : List ℕ) (r : Result (A × Spot) LibraryFault) → read at ≡ r → Stays more at r (read (longer at more))
        → Stays more at (onward r (λ x middle. cond (test x) (Ok (x, middle)) (Err (fault at.place))))
        (onward (read (longer at more)) (λ x middle. cond (test x) (Ok (x, middle)) (Err (fault at.place))))
    go at more (Ok x) is h = rw h (tested_grows test fault final at more x.0 x.1 (test x.0) refl)
    go at more (Err f) is h = err_onward f (read (longer at more)) (λ x middle. cond (test x) (Ok (x, middle)) (Err (fault at.place))) more at h

    passed : (at : Spot) (y : A) (middle : Spot) (x : A) (after : Spot) (b : Bool)
        → cond b (let r : Result (A × Spot) LibraryFault = Ok (y, middle) in r) (Err (fault at.place)) ≡ Ok (x, after) → middle ≡ after
    passed at y middle x after true e =
        let pair : A × Spot = (y, middle) in
        let same : pair ≡ (x, after) = cc in
        ap (λ (p : A × Spot). p.1) same
    passed at y middle x after false e = absurd cc

    added : (at : Spot) (x : A) (after : Spot) (r : Result (A × Spot) LibraryFault) → read at ≡ r
        → onward r (λ y middle. cond (test y) (Ok (y, middle)) (Err (fault at.place))) ≡ Ok (x, after) → end_of after ≡ end_of at
    added at x after (Ok y) is e =
        ap end_of (sym (passed at y.0 y.1 x after (test y.0) e)) ∙ grows.sum at y.0 y.1 is
    added at x after (Err f) is e = absurd cc

pub grows_demanded : (test : Bool) (fault : LibraryFault) → is_final fault ≡ true → Grows (demanded test fault)
grows_demanded true fault final = grows_done tt
grows_demanded false fault final = record {
  stays = λ at more. final_stays fault more at _ final refl;
  sum = λ at x after e. absurd cc;
}

pub grows_items : {A : Type 0} {item : List A → Reader A} → ((before : List A) → Grows (item before)) → (n : ℕ) (before : List A) → Grows (items item n before)
unfolding items
grows_items each zero before = grows_done before
grows_items each (suc n) before = grows_then (each before) λ x. grows_items each n (before ++ x ∷ [])

pub grows_counted : {A : Type 0} {count : Reader ℕ} {item : List A → Reader A} → Grows count → ((before : List A) → Grows (item before)) → Grows (counted count item)
grows_counted count each = grows_then count λ n. grows_items each n []

grows_field : (w : Width) (test : ℕ → Bool) → Grows (field w test)
grows_field w test = grows_judged test bad_field (λ place. refl) (grows_number w)

grows_pair : Grows pair_at
unfolding pair_at
grows_pair = grows_then (grows_number w32) λ first. grows_then (grows_number w32) λ second. grows_done (first, second)

grows_geometry : (is_line : ℕ → Bool) → Grows (geometry_at is_line)
unfolding geometry_at
grows_geometry is_line =
    grows_then (grows_field w8 _) λ line_log. grows_then (grows_field w8 _) λ sets_log. grows_then (grows_field w8 _) λ ways.
    grows_then (grows_field w8 _) λ nothing. grows_done _

grows_geometries : Grows geometries_at
unfolding geometries_at
grows_geometries =
    grows_then (grows_geometry _) λ l1i. grows_then (grows_geometry _) λ l1d. grows_then (grows_geometry _) λ l2.
    grows_then (grows_geometry _) λ itlb. grows_then (grows_geometry _) λ dtlb. grows_done _

grows_kind : Grows kind_read
unfolding kind_read
grows_kind =
    grows_then (grows_field w8 _) λ scheme. grows_then (grows_field w8 _) λ bits. grows_then (grows_field w8 _) λ target_log.
    grows_then (grows_field w8 _) λ depth. grows_done _

grows_kinds_count : Grows kinds_count
unfolding kinds_count
grows_kinds_count =
    grows_then (grows_field w8 _) λ count. grows_then (grows_field w8 _) λ first. grows_then (grows_field w8 _) λ second.
    grows_then (grows_field w8 _) λ third. grows_done count

grows_head : Grows head_at
unfolding head_at
grows_head =
    grows_then (grows_judged _ _ (λ place. refl) (grows_number w32)) λ letters.
    grows_then (grows_judged _ _ (λ place. refl) (grows_number w32)) λ version.
    grows_then (grows_field w64 _) λ instructions.
    grows_then (grows_number w32) λ points.
    grows_then (grows_field w32 _) λ unit.
    grows_then (grows_field w32 _) λ warm.
    grows_then (grows_field w32 _) λ every.
    grows_then (grows_field w32 _) λ offset.
    grows_then (grows_demanded _ _ refl) λ tested.
    grows_then (grows_field w32 _) λ heap_low.
    grows_then (grows_field w64 _) λ seed.
    grows_then grows_geometries λ places.
    grows_then (grows_counted grows_kinds_count λ before. grows_judged _ bad_field (λ place. refl) grows_kind) λ kinds.
    grows_done _

grows_table : (first : Bool) → Grows (table_at first)
unfolding table_at
grows_table true = grows_done []
grows_table false = grows_counted (grows_field w32 _) λ before. grows_judged _ _ (λ place. refl) grows_pair

pub header_grows : Grows header_at
unfolding header_at
header_grows = grows_then grows_head λ head. grows_then (grows_table (is_first head)) λ shared. grows_done (head, shared)

grows_parts : (number most : ℕ) (shared : List (ℕ × ℕ)) → Grows (parts_at number most shared)
unfolding parts_at
grows_parts number most shared =
    grows_then (grows_field w32 _) λ owns. grows_then (grows_field w32 _) λ count.
    grows_then (grows_items (λ before. grows_judged _ _ (λ place. refl) grows_pair) owns []) λ own.
    grows_then (grows_items (λ before. grows_judged _ _ (λ place. refl) grows_pair) count []) λ runs.
    grows_done _

grows_words : (first : Bool) (number most : ℕ) (shared : List (ℕ × ℕ)) → Grows (words_at first number most shared)
unfolding words_at merged_at
grows_words true number most shared = grows_counted (grows_field w32 _) λ before. grows_judged _ _ (λ place. refl) grows_pair
grows_words false number most shared =
    grows_then (grows_judged _ _ (λ place. refl) (grows_parts number most shared)) λ parts. grows_done _

grows_entry : (which : Which) (limit number : ℕ) (before : _) → Grows (entry_after which limit number before)
unfolding entry_after
grows_entry which limit number before =
    grows_then (grows_judged _ _ (λ place. refl) (grows_judged _ _ (λ place. refl) (grows_number w32))) λ block.
    grows_then (grows_judged _ _ (λ place. refl) (grows_judged _ _ (λ place. refl) (grows_number w64))) λ time.
    grows_done _

grows_set : (which : Which) (limit : ℕ) (before : _) → Grows (set_after which limit before)
unfolding set_at
grows_set which limit before =
    grows_counted (grows_judged _ _ (λ place. refl) (grows_number w8)) λ entries. grows_entry which limit (length before) entries

grows_snapshot : (which : Which) → Grows (snapshot_at which)
unfolding snapshot_at
grows_snapshot which =
    grows_then (grows_field w64 _) λ time. grows_then (grows_items (λ before. grows_set which time before) (sets_of which.shape) []) λ sets.
    grows_done _

grows_snapshots : (number : ℕ) (shapes : Places Shape) → Grows (snapshots_at number shapes)
unfolding snapshots_at
grows_snapshots number shapes =
    grows_then (grows_snapshot _) λ l1i. grows_then (grows_snapshot _) λ l1d. grows_then (grows_snapshot _) λ l2.
    grows_then (grows_snapshot _) λ itlb. grows_then (grows_snapshot _) λ dtlb. grows_done _

grows_target : (kind : PredictorKind) (before : List (ℕ × ℕ)) → Grows (target_after kind before)
unfolding target_after
grows_target kind before = grows_then (grows_field w32 _) λ pc. grows_then (grows_field w32 _) λ target. grows_done (pc, target)

grows_image : (kind : PredictorKind) → Grows (image_at kind)
unfolding image_at
grows_image kind =
    grows_then (grows_items (λ before. grows_field w8 _) (2 ^ kind.bits) []) λ counters.
    grows_then (grows_field w32 _) λ history.
    grows_then (grows_items (λ before. grows_target kind before) (2 ^ kind.target_log) []) λ targets.
    grows_then (grows_counted (grows_field w8 _) λ before. grows_field w32 _) λ stack.
    grows_done _

pub point_grows : (h : Head) (shared : List (ℕ × ℕ)) (number wanted : ℕ) → Grows (point_at h shared number wanted)
unfolding point_at
point_grows h shared number wanted =
    grows_then (grows_judged _ _ (λ place. refl) (grows_number w32)) λ unit.
    grows_then (grows_field w32 _) λ pc.
    grows_then (grows_items (λ before. grows_number w32) _ []) λ regs.
    grows_then (grows_field w32 _) λ brk.
    grows_then (grows_words (is_first h) number _ shared) λ words.
    grows_then (grows_snapshots number h.places) λ places.
    grows_then (grows_items (λ before. grows_image _) (length h.kinds) []) λ images.
    grows_done _

pub end_grows : Grows end_at
end_grows = grows_field w32 _

pub whole_grows : Grows whole_at
unfolding whole_at
whole_grows =
    grows_then header_grows λ front.
    grows_then (grows_items (λ before. point_grows front.0 front.1 _ _) front.0.points []) λ points.
    grows_then end_grows λ end.
    grows_done _
