-- A header that was read is one whose points can be folded.
use Rattle.std.proofs.Common.{◌≡◌, ◌<◌, ◌≤◌, ℕ, List, [], Option, Some, None, Err, refl, sym, ap, subst, ◌∙◌, arith}
use Rattle.std.proofs.lemmas.List.Elements.{All-from_get_or}
use Rattle.std.specs.Prelude.{IfSome, IsSome, option_map}
use Rattle.live_points.specs.declared.header.Header.{Header}
use Rattle.livepoint_format.proofs.DecodingLemmas.{points_most, points_some, usable}
use Rattle.livepoint_format.proofs.PointLaws.{kind_is}
use Rattle.livepoint_format.specs.Format.{IsHeader, design_of, kind_at}
use Rattle.livepoint_format.specs.Values.{Head}
use Rattle.livepoint_format.specs.Views.{head_of}
use Rattle.predictor.specs.Kind.{IsKind}
use Rattle.sample_design.specs.declared.design.Design.{Design}
use Rattle.sample_design.specs.Design.{IsUsable}
use Rattle.library_reader.specs.Intake.{HasRead, IsOver}
use Rattle.library_reader.specs.Laws.{library_at}
use Rattle.livepoint_format.specs.declared.fault.LibraryFault.TheVariants.{BadMagic}
use Rattle.library_reader.specs.Reader.{Front, Reading, fresh}
use Rattle.library_fold.specs.Batches.{HasStarted, IsFoldable}

same_design : (header : Header) → header.design.budget ≡ 1 → design_of (head_of header) ≡ header.design
same_design header budget = λ i. record {
  unit = header.design.unit;
  warm = header.design.warm;
  every = header.design.every;
  offset = header.design.offset;
  seed = header.design.seed;
  budget = sym budget i;
}

pub foldable_of : (header : Header) → IsHeader (head_of header) → header.design.budget ≡ 1 → IsFoldable header
foldable_of header is budget = record {
  design = subst IsUsable (same_design header budget) (usable (head_of header) is);
  places = is.places;
  kinds = All-from_get_or IsKind header.records.kinds (kind_at [] 0) (λ k fits. kind_is header.records.kinds is.kinds k fits);
  points = (points_some (head_of header) is, points_most (head_of header) is);
}

some_head : (header : Header) (front : Option Front) → Some (head_of header) ≡ option_map (λ (f : Front). f.0) front
    → (f : Front) × (front ≡ Some f) × (head_of header ≡ f.0)
some_head header None is = cc
some_head header (Some f) is = (f, refl, cc)

pub started_of :
    (header : Header) (old new : Reading) (before after : Option (List ℕ)) (given : List ℕ) → old ≡ fresh
    → HasRead old new before after [] given → Some (head_of header) ≡ option_map (λ (f : Front). f.0) new.front
    → IsHeader (head_of header) → header.design.budget ≡ 1 → HasStarted header new before after
started_of header old new before after given first read value is budget =
    let head = some_head header new.front value in (
      head.0,
      given,
      record {
        read = subst (λ (r : Reading). HasRead r new before after [] given) first read;
        front_is = head.1;
        head = head.2;
        header_is = subst IsHeader head.2 is;
        budget = budget;
      },
    )

-- a library that ends before its header is none
pub no_header :
    (r : Reading) (before after : Option (List ℕ)) (given : List ℕ) → r ≡ fresh → IsOver r before after (library_at None r.front) given
    → IsOver r before after (λ first. Err BadMagic) given
no_header r before after given first over =
    subst (λ (front : Option Front). IsOver r before after (library_at None front) given) (ap (λ (r : Reading). r.front) first) over
