-- The tables after a list of events.
use Rattle.std.proofs.Common.{◌≡◌, List, [], ◌∷◌, ◌++◌, ℕ, true, false, refl}
use Rattle.std.proofs.lemmas.Grind.{fold-append}
use Rattle.rv_exec.specs.declared.event.Event.{Event}
use Rattle.rv_exec.specs.declared.event.Flow.{Flow}
use Rattle.rv_exec.specs.declared.event.Flow.TheVariants.{Straight, Branch, Jal, Jalr}
use Rattle.predictor.specs.declared.kind.PredictorKind.{PredictorKind}
use Rattle.predictor.specs.Tables.{Tables, empty_tables}
use Rattle.predictor.specs.Rules.{trained, observed, flow_learnt}

-- after one more event it has learnt from that one
pub trained_more :
    (kind : PredictorKind) (events : List Event) (event : Event)
    → trained kind (events ++ event ∷ []) ≡ observed (trained kind events) event
unfolding trained
trained_more kind events event = fold-append observed (empty_tables kind) events (event ∷ [])

flow_keeps_kind : (t : Tables) (flow : Flow) (pc next : ℕ) → (flow_learnt t flow pc next).kind ≡ t.kind
flow_keeps_kind t Straight pc next = refl
flow_keeps_kind t (Branch taken) pc next = refl
flow_keeps_kind t (Jal true) pc next = refl
flow_keeps_kind t (Jal false) pc next = refl
flow_keeps_kind t (Jalr true true) pc next = refl
flow_keeps_kind t (Jalr true false) pc next = refl
flow_keeps_kind t (Jalr false true) pc next = refl
flow_keeps_kind t (Jalr false false) pc next = refl

-- an event changes no kind
pub observed_kind : (t : Tables) (event : Event) → (observed t event).kind ≡ t.kind
observed_kind t event = flow_keeps_kind t event.control event.pc event.next
