-- What is learnt of one instruction more.
use Rattle.std.proofs.Common.{◌≡◌, ◌≤◌, ◌<◌, ◌+◌, ◌*◌, ◌^◌, ℕ, List, [], ◌∷◌, ◌++◌, length, map, Option, Some, None, refl, sym, ap, ◌∙◌, arith, append_assoc, length-append}
use Rattle.std.proofs.lemmas.List.{append-nil, length-map}
use Rattle.hierarchy.specs.declared.places.Places.{Places}
use Rattle.hierarchy.specs.declared.state.State.{State}
use Rattle.hierarchy.specs.State.{after_event}
use Rattle.hierarchy.specs.Warming.{warmed}
use Rattle.hierarchy.proofs.WarmingLemmas.{fetches_more, data_more, all_more, warmed_more}
use Rattle.live_points.specs.declared.header.Records.{Records}
use Rattle.live_points.specs.Points.{records_of, records_after, images_after}
use Rattle.lru_plain.specs.Shape.{Shape}
use Rattle.predictor.specs.declared.kind.PredictorKind.{PredictorKind}
use Rattle.predictor.specs.Rules.{observed, trained}
use Rattle.predictor.specs.Tables.{Tables}
use Rattle.recency_record.specs.Recency.{Recency, record_of}
use Rattle.rv_exec.specs.declared.event.DataRef.{DataRef}
use Rattle.rv_exec.specs.declared.event.Event.{Event}
use Rattle.rv_exec.specs.References.{fetches, data_of, data_refs, all_refs, transfers}
use Rattle.warming.specs.Learning.{Learnt, AreEarly, learnt_of}

-- a predictor learns of each instruction what its own training does
predictor_more :
    (g : Places Shape) (kind : PredictorKind) (es : List Event) (e : Event)
    → observed (trained kind (transfers es)) e ≡ trained kind (transfers (es ++ e ∷ []))
unfolding warmed after_event
predictor_more g kind es e = ap (λ (s : State). s.predictor) (warmed_more g kind es e)

images_more :
    (g : Places Shape) (kinds : List PredictorKind) (es : List Event) (e : Event)
    → map (λ tables. observed tables e) (images_after kinds es) ≡ images_after kinds (es ++ e ∷ [])
images_more g [] es e = refl
images_more g (kind ∷ kinds) es e = λ i. predictor_more g kind es e i ∷ images_more g kinds es e i

records_more :
    (g : Places Shape) (es : List Event) (e : Event)
    → records_of g (fetches es ++ e.pc ∷ []) (data_refs es ++ data_of e.access) ((all_refs es ++ e.pc ∷ []) ++ data_of e.access)
    ≡ records_after g (es ++ e ∷ [])
records_more g es e =
    rw (fetches_more es e, data_more es e, all_more es e)
    (ap (records_of g (fetches es ++ e.pc ∷ []) (data_refs es ++ data_of e.access))
    (append_assoc (all_refs es) (e.pc ∷ []) (data_of e.access)))

both_learnt :
    (places more : Places Recency) (images : List Tables) (other : List Tables) → places ≡ more → images ≡ other
    → ◌≡◌ {A = Learnt} (record { places = places; images = images }) (record { places = more; images = other })
both_learnt places more images other p q = λ i. record { places = p i; images = q i }

-- what was learnt of a longer list
pub learnt_more :
    (records : Records) (es : List Event) (e : Event) (places : Places Recency) (before images : List Tables)
    → places
    ≡ records_of records.places (fetches es ++ e.pc ∷ []) (data_refs es ++ data_of e.access) ((all_refs es ++ e.pc ∷ []) ++ data_of e.access)
    → before ≡ images_after records.kinds es → images ≡ map (λ tables. observed tables e) before
    → ◌≡◌ {A = Learnt} (record { places = places; images = images }) (learnt_of records (es ++ e ∷ []))
learnt_more records es e places before images records_are were are =
    both_learnt _ _ _ _ (records_are ∙ records_more records.places es e)
    (are ∙ ap (map (λ tables. observed tables e)) were ∙ images_more records.places records.kinds es e)

-- nothing was learnt before any instruction
pub learnt_none :
    (records : Records)
    → ◌≡◌ {A = Learnt} (record {
      places = records_of records.places [] [] [];
      images = map (λ kind. trained kind []) records.kinds;
    }) (learnt_of records [])
unfolding fetches data_refs all_refs transfers
learnt_none records = refl

-- ---- times

few_data : (access : Option DataRef) → length (data_of access) ≤ 1
few_data None = omega arith
few_data (Some d) = omega arith

few_data_refs : (es : List Event) → length (data_refs es) ≤ length es
unfolding data_refs
few_data_refs [] = omega arith
few_data_refs (e ∷ es) =
    let rest : length (data_refs es) ≤ length es = few_data_refs es in
    let here : length (data_of e.access) ≤ 1 = few_data e.access in
    let all : length (data_of e.access ++ data_refs es) ≡ length (data_of e.access) + length (data_refs es) =
    length-append (data_of e.access) (data_refs es) in
    omega arith

few_refs : (es : List Event) → length (all_refs es) ≤ 2 * length es
unfolding all_refs
few_refs [] = omega arith
few_refs (e ∷ es) =
    let rest : length (all_refs es) ≤ 2 * length es = few_refs es in
    let here : length (data_of e.access) ≤ 1 = few_data e.access in
    let all : length (data_of e.access ++ all_refs es) ≡ length (data_of e.access) + length (all_refs es) =
    length-append (data_of e.access) (all_refs es) in
    omega arith

fetches_len : (es : List Event) → length (fetches es) ≡ length es
unfolding fetches
fetches_len es = length-map es (λ (e : Event). e.pc)

-- the records of a run that isn't too long
pub early_after : (g : Places Shape) (es : List Event) → length es ≤ 2 ^ 37 → AreEarly (records_after g es)
unfolding record_of
early_after g es few =
    let f : length (fetches es) ≡ length es = fetches_len es in
    let d : length (data_refs es) ≤ length es = few_data_refs es in
    let b : length (all_refs es) ≤ 2 * length es = few_refs es in
    record { l1i = omega arith; l1d = omega arith; l2 = omega arith; itlb = omega arith; dtlb = omega arith }
