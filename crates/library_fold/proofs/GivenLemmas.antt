-- What all that a source gave is as a library.
use Rattle.std.proofs.Common.{◌≡◌, ◌≤◌, ◌+◌, ℕ, List, [], ◌++◌, length, Option, Some, None, Result, Ok, Err, refl, sym, ap, subst, ◌∙◌, arith, append-nil}
use Rattle.std.specs.Prelude.{IfSome}
use Rattle.livepoint_format.specs.declared.fault.LibraryFault.{LibraryFault}
use Rattle.livepoint_format.specs.Decoding.{library_of}
use Rattle.livepoint_format.specs.Values.{Point, Whole}
use Rattle.livepoint_format.specs.Views.{head_of}
use Rattle.live_points.specs.declared.header.Header.{Header}
use Rattle.library_reader.proofs.IntakeLemmas.{over_behind}
use Rattle.library_reader.proofs.ReadingLemmas.{starts_is}
use Rattle.library_reader.specs.Intake.{IsOver}
use Rattle.library_reader.specs.Laws.{library_at, whole_of}
use Rattle.library_reader.specs.Reader.{Front, Reading, fresh}
use Rattle.smarts_io.specs.Bytes.{Gives, IsAtEnd}
use Rattle.library_fold.specs.Batches.{HasEnded, HasStarted}
use Rattle.library_fold.specs.Given.{HasGiven}
use Rattle.library_fold.specs.Stops.{IsStopped}
use Rattle.library_fold.specs.declared.stop.Stop.TheVariants as stops

given_over :
    (before after : Option (List ℕ)) (expected : List Point → Result Whole LibraryFault) (given : List ℕ)
    → IsOver fresh before after expected given → HasGiven before after (expected []) given
given_over before after expected given over = record {
  gives = over.gives;
  whole = λ few. over.whole (omega (arith, few));
  most = omega (arith, over.most);
  library = over.library [] [] starts_is refl;
}

-- the first fault was one before the header
pub stopped_first :
    (fault : LibraryFault) (before after : Option (List ℕ)) → IsStopped (stops.Library fault) fresh before after
    → (given : List ℕ) × HasGiven before after (Err fault) given
stopped_first fault before after one = (one.0, given_over before after (λ first. Err fault) one.0 one.1)

-- or one behind it
pub stopped_later :
    (header : Header) (fault : LibraryFault) (mid : Reading) (before between after : Option (List ℕ))
    → HasStarted header mid before between → IsStopped (stops.Library fault) mid between after
    → (given : List ℕ) × HasGiven before after (Err fault) given
stopped_later header fault mid before between after start stop = (
  start.1 ++ stop.0,
  given_over before after (λ first. Err fault) (start.1 ++ stop.0)
      (over_behind fresh mid before between after [] (λ first. Err fault) start.1 stop.0 start.2.read stop.1),
)

-- a library with this header and these points, as many as the header says
pub record IsLibraryRead (header : Header) (before after : Option (List ℕ)) (points : List Point) : Type 0 where
  pub front : Front
  pub given : List ℕ
  pub is : HasGiven before after (Ok (whole_of front points)) given
  pub head : head_of header ≡ front.0
  pub count : length points ≡ header.points

count_of : (header : Header) (of : Front) (front : Option Front) (count : ℕ) → front ≡ Some of → head_of header ≡ of.0
    → IfSome front (λ f. count ≡ f.0.points) → count ≡ header.points
count_of header of front count is same all =
    subst (λ (f : Option Front). IfSome f (λ f. count ≡ f.0.points)) is all ∙ sym (ap (λ h. h.points) same)

pub library_read :
    (header : Header) (mid : Reading) (before between after : Option (List ℕ)) (points : List Point)
    → HasStarted header mid before between → HasEnded mid between after points → IsLibraryRead header before after points
library_read header mid before between after points start end =
    let over = over_behind fresh mid before between after [] (λ first. library_at None mid.front (first ++ points)) start.1 end.0 start.2.read end.1 in
    let given : HasGiven before after (library_at None mid.front points) (start.1 ++ end.0) =
    given_over before after (λ first. library_at None mid.front ((first ++ []) ++ points)) (start.1 ++ end.0) over in
    record {
      front = start.0;
      given = start.1 ++ end.0;
      is = subst (λ (front : Option Front). HasGiven before after (library_at None front points) (start.1 ++ end.0)) start.2.front_is given;
      head = start.2.head;
      count = count_of header start.0 mid.front (length points) start.2.front_is start.2.head (end.2 start.1 [] (start.2.read.on [] [] starts_is));
    }
