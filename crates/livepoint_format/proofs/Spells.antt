-- Readers and the bytes that they take: a reader answers a value exactly where that value's spelling stands.
use Rattle.std.proofs.Common.{◌≡◌, ℕ, zero, suc, ◌+◌, ◌^◌, ◌<◌, ◌≤◌, Bool, true, false, ltb, cond, Result, Ok, Err, List, [], ◌∷◌, ◌++◌, length, take, drop, get_or, refl, sym, ap, subst, ◌∙◌, arith, append_assoc, append-nil, length-append, true≢false, le-ltb, ltb-false}
use Rattle.std.specs.Prelude.{flat_map}
use Rattle.std.specs.Int.{Width, w8, w32, w64, byte_len, from_le_bytes, to_le_bytes}
use Rattle.std.proofs.lemmas.List.{take_at, drop_at}
use Rattle.std.proofs.lemmas.Nat.{le_bytes_4, le_bytes_8, from_le_bytes-to_le_bytes_4, from_le_bytes-to_le_bytes_8}
use Rattle.std.proofs.Common.{take-append-drop, length-take-le, ◌%◌}
use Rattle.live_words.specs.Follow.{Follow}
use Rattle.livepoint_format.specs.declared.fault.LibraryFault.{LibraryFault}
use Rattle.livepoint_format.specs.declared.fault.LibraryFault.TheVariants as faults
use Rattle.livepoint_format.specs.Reads.{IsBytes}
use Rattle.livepoint_format.specs.Reading.{Spot, Reader, done, onward, ◌>>=◌, number, judged, demanded, items, counted}

-- a value was read from this spot to another
pub record Took {A : Type 0} (spelling : A → List ℕ) (IsIn : A → Type 0) (at : Spot) (x : A) (after : Spot) : Type 0 where
  pub is_in : IsIn x
  pub text : at.rest ≡ spelling x ++ after.rest
  pub place : after.place ≡ at.place + length (spelling x)
  pub bytes : IsBytes after.rest

pub record Spells {A : Type 0} (read : Reader A) (spelling : A → List ℕ) (IsIn : A → Type 0) : Type 0 where
  pub takes : (at : Spot) (x : A) (after : Spot) → IsBytes at.rest → read at ≡ Ok (x, after) → Took spelling IsIn at x after
  pub again : (x : A) (place : ℕ) (rest : List ℕ) → IsIn x
      → read (record { place = place; rest = spelling x ++ rest })
      ≡ Ok (x, record { place = place + length (spelling x); rest = rest })

-- a reader of values that it makes of what was read
abbrev pub Builds : {A : Type 0} → Reader A → (A → List ℕ) → (A → Type 0) → (A → A) → Type 0
Builds read spelling IsIn make = Spells read spelling (λ y. IsIn y × (y ≡ make y))

-- what was read first, and what then
record Onward {A B : Type 0} (r : Result (A × Spot) LibraryFault) (next : A → Reader B) (y : B) (after : Spot) : Type 0 where
  x : A
  middle : Spot
  first : r ≡ Ok (x, middle)
  then : next x middle ≡ Ok (y, after)

onward_ok : {A B : Type 0} (r : Result (A × Spot) LibraryFault) (next : A → Reader B) (y : B) (after : Spot)
    → onward r next ≡ Ok (y, after) → Onward r next y after
onward_ok (Ok x) next y after e = record { x = x.0; middle = x.1; first = refl; then = e }
onward_ok (Err fault) next y after e = absurd cc

spot_of : (place place' : ℕ) (rest : List ℕ) → place ≡ place'
    → record { place = place; rest = rest } ≡ (let s : Spot = record { place = place'; rest = rest } in s)
spot_of place place' rest e = ap (λ (n : ℕ). let s : Spot = record { place = n; rest = rest } in s) e

module _ {A B : Type 0} {read : Reader A} {first : A → List ℕ} {IsIn : A → Type 0} {next : A → Reader B}
    {Goes : A → B → Type 0} {make : A → B → B} (part : B → A) where
  pub built : {second : B → List ℕ} → Spells read first IsIn
      → ((x : A) (y : B) → IsIn x → Goes x y → part (make x y) ≡ x)
      → ((x : A) → IsIn x → Builds (next x) second (Goes x) (make x))
      → Builds (read >>= next) (λ y. first (part y) ++ second y) (λ y. IsIn (part y) × Goes (part y) y) (λ y. make (part y) y)
  built {second} spells keeps more = record {
    takes = λ at y after bytes e.
        let o : Onward (read at) next y after = onward_ok (read at) next y after e in
        let a : Took first IsIn at o.x o.middle = spells.takes at o.x o.middle bytes o.first in
        let b : Took second (λ z. Goes o.x z × (z ≡ make o.x z)) o.middle y after =
        (more o.x a.is_in).takes o.middle y after a.bytes o.then in
        let same : part y ≡ o.x = ap part b.is_in.1 ∙ keeps o.x y a.is_in b.is_in.0 in
        let text : at.rest ≡ (first (part y) ++ second y) ++ after.rest =
        a.text ∙ ap (λ (l : List ℕ). first o.x ++ l) b.text ∙ sym (append_assoc (first o.x) (second y) after.rest)
        ∙ ap (λ (x : A). (first x ++ second y) ++ after.rest) (sym same) in
        let long : length (first (part y) ++ second y) ≡ length (first o.x) + length (second y) =
        ap (λ (x : A). length (first x ++ second y)) same ∙ length-append (first o.x) (second y) in
        record {
          is_in = subst (λ (x : A). (IsIn x × Goes x y) × (y ≡ make x y)) (sym same) ((a.is_in, b.is_in.0), b.is_in.1);
          text = text;
          place = omega (arith, a.place, b.place, long);
          bytes = b.bytes;
        };
    again = λ y place rest is.
        let text : (first (part y) ++ second y) ++ rest ≡ first (part y) ++ (second y ++ rest) = append_assoc (first (part y)) (second y) rest in
        let long : (place + length (first (part y))) + length (second y) ≡ place + length (first (part y) ++ second y) =
        omega (arith, length-append (first (part y)) (second y)) in
        ap (λ (l : List ℕ). onward (read (record { place = place; rest = l })) next) text
        ∙ ap (λ (r : Result (A × Spot) LibraryFault). onward r next) (spells.again (part y) place (second y ++ rest) is.0.0)
        ∙ (more (part y) is.0.0).again y (place + length (first (part y))) rest (is.0.1, is.1)
        ∙ ap (λ (n : ℕ). let s : Spot = record { place = n; rest = rest } in let r : Result (B × Spot) LibraryFault = Ok (y, s) in r) long;
  }

  -- the same, where how the rest is spelled depends on what was read
  pub built_by : {second : A → B → List ℕ} → Spells read first IsIn
      → ((x : A) (y : B) → IsIn x → Goes x y → part (make x y) ≡ x)
      → ((x : A) → IsIn x → Builds (next x) (second x) (Goes x) (make x))
      → Builds (read >>= next) (λ y. first (part y) ++ second (part y) y) (λ y. IsIn (part y) × Goes (part y) y) (λ y. make (part y) y)
  built_by {second} spells keeps more = record {
    takes = λ at y after bytes e.
        let o : Onward (read at) next y after = onward_ok (read at) next y after e in
        let a : Took first IsIn at o.x o.middle = spells.takes at o.x o.middle bytes o.first in
        let b : Took (second o.x) (λ z. Goes o.x z × (z ≡ make o.x z)) o.middle y after =
        (more o.x a.is_in).takes o.middle y after a.bytes o.then in
        let same : part y ≡ o.x = ap part b.is_in.1 ∙ keeps o.x y a.is_in b.is_in.0 in
        let text : at.rest ≡ (first (part y) ++ second (part y) y) ++ after.rest =
        a.text ∙ ap (λ (l : List ℕ). first o.x ++ l) b.text ∙ sym (append_assoc (first o.x) (second o.x y) after.rest)
        ∙ ap (λ (x : A). (first x ++ second x y) ++ after.rest) (sym same) in
        let long : length (first (part y) ++ second (part y) y) ≡ length (first o.x) + length (second o.x y) =
        ap (λ (x : A). length (first x ++ second x y)) same ∙ length-append (first o.x) (second o.x y) in
        record {
          is_in = subst (λ (x : A). (IsIn x × Goes x y) × (y ≡ make x y)) (sym same) ((a.is_in, b.is_in.0), b.is_in.1);
          text = text;
          place = omega (arith, a.place, b.place, long);
          bytes = b.bytes;
        };
    again = λ y place rest is.
        let text : (first (part y) ++ second (part y) y) ++ rest ≡ first (part y) ++ (second (part y) y ++ rest) = append_assoc (first (part y)) (second (part y) y) rest in
        let long : (place + length (first (part y))) + length (second (part y) y) ≡ place + length (first (part y) ++ second (part y) y) =
        omega (arith, length-append (first (part y)) (second (part y) y)) in
        ap (λ (l : List ℕ). onward (read (record { place = place; rest = l })) next) text
        ∙ ap (λ (r : Result (A × Spot) LibraryFault). onward r next) (spells.again (part y) place (second (part y) y ++ rest) is.0.0)
        ∙ (more (part y) is.0.0).again y (place + length (first (part y))) rest (is.0.1, is.1)
        ∙ ap (λ (n : ℕ). let s : Spot = record { place = n; rest = rest } in let r : Result (B × Spot) LibraryFault = Ok (y, s) in r) long;
  }

  -- the last part
  pub built_last : Spells read first IsIn
      → ((x : A) (y : B) → IsIn x → Goes x y → part (make x y) ≡ x)
      → ((x : A) → IsIn x → Builds (next x) (λ y. []) (Goes x) (make x))
      → Builds (read >>= next) (λ y. first (part y)) (λ y. IsIn (part y) × Goes (part y) y) (λ y. make (part y) y)
  built_last spells keeps more =
      let whole : Builds (read >>= next) (λ y. first (part y) ++ []) (λ y. IsIn (part y) × Goes (part y) y) (λ y. make (part y) y) =
      built spells keeps more in
      respelled whole (λ y i. append-nil (first (part y)))
    where
      respelled : {C : Type 0} {r : Reader C} {one other : C → List ℕ} {In : C → Type 0} → Spells r one In
          → ((y : C) → In y → one y ≡ other y) → Spells r other In
      respelled {C} {r} {one} {other} {In} s same = record {
        takes = λ at y after bytes e.
            let t : Took one In at y after = s.takes at y after bytes e in
            record {
              is_in = t.is_in;
              text = rw (← same y t.is_in) t.text;
              place = rw (← same y t.is_in) t.place;
              bytes = t.bytes;
            };
        again = λ y place rest i. rw (← same y i) (s.again y place rest i);
      }

-- the same in other words
pub said_so : {A : Type 0} {read : Reader A} {one other : A → List ℕ} {IsIn IsOut : A → Type 0} → Spells read one IsIn
    → ((y : A) → IsIn y → IsOut y) → ((y : A) → IsOut y → IsIn y) → ((y : A) → IsOut y → one y ≡ other y)
    → Spells read other IsOut
said_so {one = one} {other = other} {IsIn = IsIn} spells out in_ same = record {
  takes = λ at y after bytes e.
      let t : Took one IsIn at y after = spells.takes at y after bytes e in
      record {
        is_in = out y t.is_in;
        text = rw (← same y (out y t.is_in)) t.text;
        place = rw (← same y (out y t.is_in)) t.place;
        bytes = t.bytes;
      };
  again = λ y place rest i. rw (← same y i) (spells.again y place rest (in_ y i));
}

pub finished : {A : Type 0} {read : Reader A} {spelling : A → List ℕ} {IsIn IsOut : A → Type 0} {make : A → A}
    → Builds read spelling IsIn make → ((y : A) → IsIn y → y ≡ make y → IsOut y) → ((y : A) → IsOut y → IsIn y × (y ≡ make y))
    → Spells read spelling IsOut
finished spells out in_ = said_so spells (λ y i. out y i.0 i.1) in_ (λ y i. refl)

pub made : {A : Type 0} (v : A) → Builds (done v) (λ y. []) (λ y. Unit {0}) (λ y. v)
made v = record {
  takes = λ at x after bytes e.
      let same : (v, at) ≡ (x, after) = cc in
      let value : v ≡ x = ap (λ (p : _ × Spot). p.0) same in
      let spot : at ≡ after = ap (λ (p : _ × Spot). p.1) same in
      record {
        is_in = (tt, sym value);
        text = ap (λ (s : Spot). s.rest) spot;
        place = omega (arith, ap (λ (s : Spot). s.place) spot);
        bytes = subst (λ (s : Spot). IsBytes s.rest) spot bytes;
      };
  again = λ x place rest i.
      let none : place ≡ place + 0 = omega arith in
      rw (← none, i.1) refl;
}

-- ---- numbers

-- what numbers of this width are as bytes
pub record IsWide (w : Width) (bound : ℕ) : Type 0 where
  pub long : (n : ℕ) → length (to_le_bytes w n) ≡ byte_len w
  pub fits : (bytes : List ℕ) → length bytes ≡ byte_len w → ((i : ℕ) → get_or bytes i 0 < 256) → from_le_bytes w bytes < bound
  pub written : (bytes : List ℕ) → length bytes ≡ byte_len w → ((i : ℕ) → get_or bytes i 0 < 256)
      → to_le_bytes w (from_le_bytes w bytes) ≡ bytes
  pub read : (n : ℕ) → n < bound → from_le_bytes w (to_le_bytes w n) ≡ n

one_byte : (bytes : List ℕ) → length bytes ≡ 1 → ((i : ℕ) → get_or bytes i 0 < 256) → to_le_bytes w8 (from_le_bytes w8 bytes) ≡ bytes
one_byte [] long each = absurd (omega arith)
one_byte (a ∷ []) long each =
    let small : a < 256 = each 0 in
    let same : a % 256 ≡ a = omega arith in
    ap (λ (n : ℕ). n ∷ []) same
one_byte (a ∷ b ∷ rest) long each = absurd (omega arith)

pub wide8 : IsWide w8 256
wide8 = record {
  long = λ n. refl;
  fits = λ bytes long each. each 0;
  written = one_byte;
  read = λ n below. omega arith;
}

pub wide32 : IsWide w32 (2 ^ 32)
wide32 = record {
  long = λ n. refl;
  fits = λ bytes long each. omega (arith, each 0, each 1, each 2, each 3);
  written = λ bytes long each. le_bytes_4 bytes (from_le_bytes w32 bytes) long each refl;
  read = from_le_bytes-to_le_bytes_4;
}

pub wide64 : IsWide w64 (2 ^ 64)
wide64 = record {
  long = λ n. refl;
  fits = λ bytes long each. omega (arith, each 0, each 1, each 2, each 3, each 4, each 5, each 6, each 7);
  written = λ bytes long each. le_bytes_8 bytes (from_le_bytes w64 bytes) long each refl;
  read = from_le_bytes-to_le_bytes_8;
}

pub bytes_front : (n : ℕ) (bytes : List ℕ) → ((i : ℕ) → get_or bytes i 0 < 256) → (i : ℕ) → get_or (take n bytes) i 0 < 256
bytes_front zero bytes each i = omega arith
bytes_front (suc n) [] each i = omega arith
bytes_front (suc n) (b ∷ bytes) each zero = each 0
bytes_front (suc n) (b ∷ bytes) each (suc i) = bytes_front n bytes (λ k. each (suc k)) i

pub bytes_back : (n : ℕ) (bytes : List ℕ) → ((i : ℕ) → get_or bytes i 0 < 256) → (i : ℕ) → get_or (drop n bytes) i 0 < 256
bytes_back zero bytes each i = each i
bytes_back (suc n) [] each i = omega arith
bytes_back (suc n) (b ∷ bytes) each i = bytes_back n bytes (λ k. each (suc k)) i

-- a number was read
record IsNumber (w : Width) (at : Spot) (n : ℕ) (after : Spot) : Type 0 where
  there : byte_len w ≤ length at.rest
  value : n ≡ from_le_bytes w (take (byte_len w) at.rest)
  place : after.place ≡ at.place + byte_len w
  rest : after.rest ≡ drop (byte_len w) at.rest

number_is : (w : Width) (at : Spot) (n : ℕ) (after : Spot) → number w at ≡ Ok (n, after) → IsNumber w at n after
number_is w at n after e =
    go (ltb (length at.rest) (byte_len w)) refl e
  where
    go : (b : Bool) → ltb (length at.rest) (byte_len w) ≡ b
        → cond b (Err (faults.Truncated (at.place + length at.rest)))
        (let r : Result (ℕ × Spot) LibraryFault = Ok (from_le_bytes w (take (byte_len w) at.rest), record { place = at.place + byte_len w; rest = drop (byte_len w) at.rest }) in r)
        ≡ Ok (n, after) → IsNumber w at n after
    go true test e = absurd cc
    go false test e =
        let next : Spot = record { place = at.place + byte_len w; rest = drop (byte_len w) at.rest } in
        let same : (from_le_bytes w (take (byte_len w) at.rest), next) ≡ (n, after) = cc in
        let spot : next ≡ after = ap (λ (p : ℕ × Spot). p.1) same in
        record {
          there = ltb-false _ _ test;
          value = sym (ap (λ (p : ℕ × Spot). p.0) same);
          place = ap (λ (s : Spot). s.place) (sym spot);
          rest = ap (λ (s : Spot). s.rest) (sym spot);
        }

pub number_spells : (w : Width) (bound : ℕ) → IsWide w bound → Spells (number w) (to_le_bytes w) (λ n. n < bound)
number_spells w bound wide = record {
  takes = λ at n after bytes e.
      let is : IsNumber w at n after = number_is w at n after e in
      let front : List ℕ = take (byte_len w) at.rest in
      let long : length front ≡ byte_len w = length-take-le (byte_len w) at.rest is.there in
      let each : (i : ℕ) → get_or front i 0 < 256 = bytes_front (byte_len w) at.rest bytes.each in
      let spelt : to_le_bytes w n ≡ front = ap (to_le_bytes w) is.value ∙ wide.written front long each in
      record {
        is_in = subst (λ (m : ℕ). m < bound) (sym is.value) (wide.fits front long each);
        text = sym (ap (λ (l : List ℕ). l ++ after.rest) spelt ∙ ap (λ (l : List ℕ). front ++ l) is.rest ∙ take-append-drop (byte_len w) at.rest);
        place = omega (arith, is.place, wide.long n);
        bytes = record { each = subst (λ (l : List ℕ). (i : ℕ) → get_or l i 0 < 256) (sym is.rest) (bytes_back (byte_len w) at.rest bytes.each) };
      };
  again = λ n place rest below.
      let text : List ℕ = to_le_bytes w n in
      let long : length text ≡ byte_len w = wide.long n in
      let enough : byte_len w ≤ length (text ++ rest) = omega (arith, length-append text rest) in
      let step : (place' : ℕ) → place' ≡ place + length text
      → cond false (Err (faults.Truncated (place + length (text ++ rest))))
      (let r : Result (ℕ × Spot) LibraryFault = Ok (from_le_bytes w text, record { place = place'; rest = rest }) in r)
      ≡ Ok (n, record { place = place + length text; rest = rest }) =
      λ place' same. rw (wide.read n below, same) refl in
      rw (le-ltb (length (text ++ rest)) (byte_len w) enough, take_at text rest (byte_len w) long, drop_at text rest (byte_len w) long)
      (step (place + byte_len w) (omega (arith, long)));
}

-- ---- tests

record IsJudged {A : Type 0} (test : A → Bool) (r : Result (A × Spot) LibraryFault) (x : A) (after : Spot) : Type 0 where
  read : r ≡ Ok (x, after)
  passes : test x ≡ true

judged_is : {A : Type 0} (test : A → Bool) (fault : LibraryFault) (r : Result (A × Spot) LibraryFault) (x : A) (after : Spot)
    → onward r (λ y middle. cond (test y) (Ok (y, middle)) (Err fault)) ≡ Ok (x, after) → IsJudged test r x after
judged_is {A} test fault (Err other) x after e = absurd cc
judged_is {A} test fault (Ok y) x after e = go (test y.0) refl e
  where
    go : (b : Bool) → test y.0 ≡ b → cond b (let r : Result (A × Spot) LibraryFault = Ok (y.0, y.1) in r) (Err fault) ≡ Ok (x, after) → IsJudged test (Ok y) x after
    go true passed e =
        let same : (y.0, y.1) ≡ (x, after) = cc in
        let value : y.0 ≡ x = ap (λ (p : A × Spot). p.0) same in
        record { read = e; passes = ap test (sym value) ∙ passed }
    go false passed e = absurd cc

pub judged_spells : {A : Type 0} {read : Reader A} {spelling : A → List ℕ} {IsIn : A → Type 0} (test : A → Bool) (fault : ℕ → LibraryFault)
    → Spells read spelling IsIn → Spells (judged test fault read) spelling (λ x. IsIn x × (test x ≡ true))
judged_spells {A} {read} {spelling} {IsIn} test fault spells = record {
  takes = λ at x after bytes e.
      let j : IsJudged test (read at) x after = judged_is test (fault at.place) (read at) x after e in
      let t : Took spelling IsIn at x after = spells.takes at x after bytes j.read in
      record { is_in = (t.is_in, j.passes); text = t.text; place = t.place; bytes = t.bytes };
  again = λ x place rest is. rw (spells.again x place rest is.0, is.1) refl;
}

-- a test of what was read before
pub demanded_spells : (test : Bool) (fault : LibraryFault) → Spells (demanded test fault) (λ x. []) (λ x. test ≡ true)
demanded_spells true fault = record {
  takes = λ at x after bytes e.
      let same : (tt, at) ≡ (x, after) = cc in
      let spot : at ≡ after = ap (λ (p : Unit {0} × Spot). p.1) same in
      record {
        is_in = refl;
        text = ap (λ (s : Spot). s.rest) spot;
        place = omega (arith, ap (λ (s : Spot). s.place) spot);
        bytes = subst (λ (s : Spot). IsBytes s.rest) spot bytes;
      };
  again = λ x place rest is.
      let none : place ≡ place + 0 = omega arith in
      rw (← none) refl;
}
demanded_spells false fault = record {
  takes = λ at x after bytes e. absurd cc;
  again = λ x place rest is. absurd (true≢false (sym is));
}

-- ---- lists

-- items were read behind others
record TookItems {A : Type 0} (spelling : A → List ℕ) (MayStand : List A → A → Type 0) (n : ℕ) (before : List A) (at : Spot) (xs : List A) (after : Spot) : Type 0 where
  more : List A
  are : xs ≡ before ++ more
  long : length more ≡ n
  follow : Follow MayStand before more
  text : at.rest ≡ flat_map spelling more ++ after.rest
  place : after.place ≡ at.place + length (flat_map spelling more)
  bytes : IsBytes after.rest

module _ {A : Type 0} {item : List A → Reader A} {spelling : A → List ℕ} {MayStand : List A → A → Type 0}
    (most : ℕ) (each : (before : List A) → length before < most → Spells (item before) spelling (MayStand before)) where
  took_items : (n : ℕ) (before : List A) (at : Spot) (xs : List A) (after : Spot) → length before + n ≤ most → IsBytes at.rest
      → items item n before at ≡ Ok (xs, after) → TookItems spelling MayStand n before at xs after
  unfolding items
  took_items zero before at xs after few bytes e =
      let pair : List A × Spot = (before, at) in
      let same : pair ≡ (xs, after) = cc in
      let spot : at ≡ after = ap (λ (p : List A × Spot). p.1) same in
      let value : before ≡ xs = ap (λ (p : List A × Spot). p.0) same in
      record {
        more = [];
        are = sym value ∙ sym (append-nil before);
        long = refl;
        follow = tt;
        text = ap (λ (s : Spot). s.rest) spot;
        place = omega (arith, ap (λ (s : Spot). s.place) spot);
        bytes = subst (λ (s : Spot). IsBytes s.rest) spot bytes;
      }
  took_items (suc n) before at xs after few bytes e =
      let o : Onward (item before at) (λ x middle. items item n (before ++ x ∷ []) middle) xs after =
      onward_ok (item before at) (λ x middle. items item n (before ++ x ∷ []) middle) xs after e in
      let a : Took spelling (MayStand before) at o.x o.middle = (each before (omega arith)).takes at o.x o.middle bytes o.first in
      let b : TookItems spelling MayStand n (before ++ o.x ∷ []) o.middle xs after = took_items n (before ++ o.x ∷ []) o.middle xs after (omega (arith, length-append before (o.x ∷ []))) a.bytes o.then in
      record {
        more = o.x ∷ b.more;
        are = b.are ∙ append_assoc before (o.x ∷ []) b.more;
        long = ap suc b.long;
        follow = (a.is_in, b.follow);
        text = a.text ∙ ap (λ (l : List ℕ). spelling o.x ++ l) b.text ∙ sym (append_assoc (spelling o.x) (flat_map spelling b.more) after.rest);
        place = omega (arith, a.place, b.place, length-append (spelling o.x) (flat_map spelling b.more));
        bytes = b.bytes;
      }

  again_items : (n : ℕ) (before more : List A) (place : ℕ) (rest : List ℕ) → length before + n ≤ most → length more ≡ n → Follow MayStand before more
      → items item n before (record { place = place; rest = flat_map spelling more ++ rest })
      ≡ Ok (before ++ more, record { place = place + length (flat_map spelling more); rest = rest })
  unfolding items
  again_items zero before [] place rest few long follow =
      let none : place ≡ place + 0 = omega arith in
      rw (append-nil before, ← none) refl
  again_items (suc n) before [] place rest few long follow = absurd (omega arith)
  again_items zero before (x ∷ more) place rest few long follow = absurd (omega arith)
  again_items (suc n) before (x ∷ more) place rest few long follow =
      let sum : (place + length (spelling x)) + length (flat_map spelling more) ≡ place + length (spelling x ++ flat_map spelling more) =
      omega (arith, length-append (spelling x) (flat_map spelling more)) in
      ap (λ (l : List ℕ). items item (suc n) before (record { place = place; rest = l })) (append_assoc (spelling x) (flat_map spelling more) rest)
      ∙ ap (λ (r : Result (A × Spot) LibraryFault). onward r (λ y middle. items item n (before ++ y ∷ []) middle))
      ((each before (omega arith)).again x place (flat_map spelling more ++ rest) follow.0)
      ∙ again_items n (before ++ x ∷ []) more (place + length (spelling x)) rest (omega (arith, length-append before (x ∷ []))) (omega arith) follow.1
      ∙ ap (λ (l : List A). let r : Result (List A × Spot) LibraryFault = Ok (l, record { place = (place + length (spelling x)) + length (flat_map spelling more); rest = rest }) in r) (append_assoc before (x ∷ []) more)
      ∙ ap (λ (m : ℕ). let s : Spot = record { place = m; rest = rest } in let r : Result (List A × Spot) LibraryFault = Ok (before ++ x ∷ more, s) in r) sum

  pub few_items_spell : (n : ℕ) → n ≤ most → Spells (items item n []) (flat_map spelling) (λ xs. (length xs ≡ n) × Follow MayStand [] xs)
  few_items_spell n few = record {
    takes = λ at xs after bytes e.
        let t : TookItems spelling MayStand n [] at xs after = took_items n [] at xs after (omega arith) bytes e in
        record {
          is_in = rw t.are (t.long, t.follow);
          text = rw t.are t.text;
          place = rw t.are t.place;
          bytes = t.bytes;
        };
    again = λ xs place rest is. again_items n [] xs place rest (omega arith) is.0 is.1;
  }

module _ {A : Type 0} {item : List A → Reader A} {spelling : A → List ℕ} {MayStand : List A → A → Type 0}
    (each : (before : List A) → Spells (item before) spelling (MayStand before)) where
  pub items_spell : (n : ℕ) → Spells (items item n []) (flat_map spelling) (λ xs. (length xs ≡ n) × Follow MayStand [] xs)
  items_spell n = few_items_spell n (λ before few. each before) n (omega arith)

  -- behind their number
  pub counted_spell : {count : Reader ℕ} {number : ℕ → List ℕ} {IsNumber : ℕ → Type 0} → Spells count number IsNumber
      → Spells (counted count item) (λ xs. number (length xs) ++ flat_map spelling xs) (λ xs. IsNumber (length xs) × Follow MayStand [] xs)
  counted_spell {count} {number} {IsNumber} spells = record {
    takes = λ at xs after bytes e.
        let o : Onward (count at) (λ n. items item n []) xs after = onward_ok (count at) (λ n. items item n []) xs after e in
        let a : Took number IsNumber at o.x o.middle = spells.takes at o.x o.middle bytes o.first in
        let b : Took (flat_map spelling) (λ ys. (length ys ≡ o.x) × Follow MayStand [] ys) o.middle xs after =
        (items_spell o.x).takes o.middle xs after a.bytes o.then in
        let same : length xs ≡ o.x = b.is_in.0 in
        record {
          is_in = (subst IsNumber (sym same) a.is_in, b.is_in.1);
          text = rw same (a.text ∙ ap (λ (l : List ℕ). number o.x ++ l) b.text ∙ sym (append_assoc (number o.x) (flat_map spelling xs) after.rest));
          place = rw same (omega (arith, a.place, b.place, length-append (number o.x) (flat_map spelling xs)));
          bytes = b.bytes;
        };
    again = λ xs place rest is.
        let n : ℕ = length xs in
        let sum : (place + length (number n)) + length (flat_map spelling xs) ≡ place + length (number n ++ flat_map spelling xs) =
        omega (arith, length-append (number n) (flat_map spelling xs)) in
        ap (λ (l : List ℕ). onward (count (record { place = place; rest = l })) (λ m. items item m [])) (append_assoc (number n) (flat_map spelling xs) rest)
        ∙ ap (λ (r : Result (ℕ × Spot) LibraryFault). onward r (λ m. items item m [])) (spells.again n place (flat_map spelling xs ++ rest) is.0)
        ∙ (items_spell n).again xs (place + length (number n)) rest (refl, is.1)
        ∙ ap (λ (m : ℕ). let s : Spot = record { place = m; rest = rest } in let r : Result (List A × Spot) LibraryFault = Ok (xs, s) in r) sum;
  }
