-- What batches that follow each other have read.
use Rattle.std.proofs.Common.{◌≡◌, ◌<◌, ◌≤◌, ◌-◌, ℕ, List, [], ◌∷◌, ◌++◌, length, Bool, true, false, Option, Some, None, Result, Ok, Err, refl, sym, ap, subst, ◌∙◌, arith, append_assoc, append-nil, length-append}
use Rattle.std.proofs.lemmas.List.Elements.{All-append, All-nil}
use Rattle.std.specs.List.{All}
use Rattle.std.specs.Prelude.{IfErr, IfSome, IsErrAnd, IsSome}
use Rattle.livepoint_format.specs.Format.{IsPoint}
use Rattle.livepoint_format.specs.Values.{Point}
use Rattle.library_reader.proofs.IntakeLemmas.{over_behind, read_behind, read_nothing}
use Rattle.library_reader.specs.Intake.{AreAll, HasRead, IsOver}
use Rattle.library_reader.specs.Laws.{AreOf, IsReadingOf, library_at}
use Rattle.library_reader.specs.Reader.{Front, Reading}
use Rattle.library_fold.specs.Batches.{AreAllWith, AreTaken, Came, HasCome, HasEnded, HaveRoom}
use Rattle.library_fold.specs.Stops.{IsStopped}
use Rattle.library_fold.specs.declared.stop.Stop.{Stop}
use Rattle.library_fold.specs.declared.stop.Stop.TheVariants as stops

-- nothing came yet
pub come_none : (r : Reading) (rest : Option (List ℕ)) → HasCome r r rest rest []
come_none r rest = ([], record { read = read_nothing r rest; front = refl })

-- ---- some points and more

pub come_behind :
    (r mid new : Reading) (before between after : Option (List ℕ)) (some more : List Point)
    → HasCome r mid before between some → HasCome mid new between after more
    → HasCome r new before after (some ++ more)
come_behind r mid new before between after some more one two = (
  one.0 ++ two.0,
  record {
    read = read_behind r mid new before between after some more one.0 two.0 one.1.read two.1.read;
    front = two.1.front ∙ one.1.front;
  },
)

all_behind :
    (r mid : Reading) (before between : Option (List ℕ)) (some more : List Point)
    → HasCome r mid before between some → AreAllWith mid more → AreAllWith r (some ++ more)
all_behind r mid before between some more one all bytes first h =
    subst (λ (front : Option Front). IfSome front (λ f. length (first ++ (some ++ more)) ≡ f.0.points)) one.1.front
    (subst (λ (points : List Point). IfSome mid.front (λ f. length points ≡ f.0.points)) (append_assoc first some more)
    (all (bytes ++ one.0) (first ++ some) (one.1.read.on bytes first h)))

pub ended_behind :
    (r mid : Reading) (before between after : Option (List ℕ)) (some more : List Point)
    → HasCome r mid before between some → HasEnded mid between after more → HasEnded r before after (some ++ more)
ended_behind r mid before between after some more one two =
    let over = over_behind r mid before between after some (λ first. library_at None mid.front (first ++ more)) one.0 two.0 one.1.read two.1 in (
      one.0 ++ two.0,
      record {
        gives = over.gives;
        whole = over.whole;
        most = over.most;
        library = λ bytes first h size.
            over.library bytes first h size
            ∙ ap (library_at None mid.front) (append_assoc first some more)
            ∙ ap (λ (front : Option Front). library_at None front (first ++ (some ++ more))) one.1.front;
      },
      all_behind r mid before between some more one two.2,
    )

-- the end by itself
pub ended_here :
    (r mid : Reading) (before between after : Option (List ℕ)) (some : List Point) (over : List ℕ)
    → HasCome r mid before between some → IsOver mid between after (library_at None mid.front) over → AreAll mid
    → HasEnded r before after some
ended_here r mid before between after some over one two all_there =
    let all = over_behind r mid before between after some (library_at None mid.front) one.0 over one.1.read two in (
      one.0 ++ over,
      record {
        gives = all.gives;
        whole = all.whole;
        most = all.most;
        library = λ bytes first h size.
            all.library bytes first h size ∙ ap (λ (front : Option Front). library_at None front (first ++ some)) one.1.front;
      },
      λ bytes first h.
          subst (λ (front : Option Front). IfSome front (λ f. length (first ++ some) ≡ f.0.points)) one.1.front
          (all_there (bytes ++ one.0) (first ++ some) (one.1.read.on bytes first h)),
    )

pub stopped_behind :
    (stop : Stop) (r mid : Reading) (before between after : Option (List ℕ)) (some : List Point)
    → HasCome r mid before between some → IsStopped stop mid between after → IsStopped stop r before after
stopped_behind (stops.Read error) r mid before between after some one two = tt
stopped_behind (stops.Library fault) r mid before between after some one two =
    (one.0 ++ two.0, over_behind r mid before between after some (λ first. Err fault) one.0 two.0 one.1.read two.1)

-- ---- one point more

pub point_behind :
    (r mid new : Reading) (before between after : Option (List ℕ)) (some : List Point) (point : Point) (given : List ℕ)
    → HasCome r mid before between some → HasRead mid new between after (point ∷ []) given → new.front ≡ mid.front
    → HasCome r new before after (some ++ point ∷ [])
point_behind r mid new before between after some point given one two front =
    come_behind r mid new before between after some (point ∷ []) one (given, record { read = two; front = front })

pub taken_behind :
    (old mid : Option Front) (some more : List Point) → mid ≡ old → AreTaken old some
    → IfSome mid (λ front. All (λ (point : Point). IsPoint front.0 point.unit point) more) → AreTaken old (some ++ more)
taken_behind None mid some more same one two = tt
taken_behind (Some front) mid some more same one two =
    All-append (λ (point : Point). IsPoint front.0 point.unit point) some more one
    (subst (λ (f : Option Front). IfSome f (λ front. All (λ (point : Point). IsPoint front.0 point.unit point) more)) same two)

pub taken_none : (front : Option Front) → AreTaken front []
taken_none None = tt
taken_none (Some front) = λ k d fits. absurd (omega (arith, fits))

-- ---- no more than the header says

room_of :
    (ended : Bool) (front : Option Front) (count : ℕ) → AreOf ended front count
    → IfSome front (λ f. count ≤ f.0.points)
room_of true None count of = tt
room_of false None count of = tt
room_of true (Some front) count of = omega (arith, of)
room_of false (Some front) count of = of

pub room_behind :
    (r new : Reading) (before after : Option (List ℕ)) (points : List Point) → HasCome r new before after points
    → HaveRoom r points
room_behind r new before after points come bytes first h =
    subst (λ (front : Option Front). IfSome front (λ f. length (first ++ points) ≤ f.0.points)) come.1.front
    (room_of new.ended new.front (length (first ++ points)) (come.1.read.on bytes first h).of)

-- ---- how many points may come

unfoldable pub left_by : Option Front → ℕ → ℕ
left_by None count = 0
left_by (Some front) count = front.0.points - count

abbrev pub left_of : Reading → ℕ
left_of r = left_by r.front r.points

left_falls :
    (front : Option Front) (few more : ℕ) → IsSome front → few < more → IfSome front (λ f. more ≤ f.0.points)
    → left_by front more < left_by front few
unfolding left_by
left_falls None few more there less within = cc
left_falls (Some front) few more there less within = omega (arith, less, within)

-- a full batch leaves fewer
pub left_behind :
    (r new : Reading) (before after : Option (List ℕ)) (bytes : List ℕ) (first points : List Point) → IsReadingOf bytes first r
    → IsSome r.front → HasCome r new before after points → HaveRoom r points → length points ≡ 128
    → left_of new < left_of r
left_behind r new before after bytes first points h there come room full =
    let count : new.points ≡ length (first ++ points) = (come.1.read.on bytes first h).count in
    let fewer : r.points < new.points = omega (arith, h.count, count, length-append first points, full) in
    let within : IfSome r.front (λ f. new.points ≤ f.0.points) =
    subst (λ (n : ℕ). IfSome r.front (λ f. n ≤ f.0.points)) (sym count) (room bytes first h) in
    subst (λ (front : Option Front). left_by front new.points < left_of r) (sym come.1.front)
    (left_falls r.front r.points new.points there fewer within)

-- what is read after all that came
pub reading_on :
    (r new : Reading) (before after : Option (List ℕ)) (points : List Point) → HasCome r new before after points
    → (bytes : List ℕ) × IsReadingOf bytes [] r → (bytes : List ℕ) × IsReadingOf bytes points new
reading_on r new before after points come h = (h.0 ++ come.0, come.1.read.on h.0 [] h.1)

pub front_there : (old new : Option Front) → new ≡ old → IsSome old → IsSome new
front_there old new same there = subst (λ (front : Option Front). IsSome front) (sym same) there

-- what holds of an error holds of the same one handed on
pub err_on : {A : Type 0} (P : Stop → Type 0) (result : Result A Stop) (stop : Stop) → IsErrAnd result (λ s. s ≡ stop) → P stop
    → IfErr result P
err_on P (Ok a) stop is holds = tt
err_on P (Err s) stop is holds = subst P (sym is) holds
