-- Caches and predictor that learn one instruction more.
use Rattle.std.proofs.Common.{◌≡◌, ℕ, List, [], ◌∷◌, ◌++◌, refl, sym, ◌∙◌, ap, Option, Some, None, append_assoc}
use Rattle.std.specs.Prelude.{filter}
use Rattle.std.proofs.lemmas.List.{map-append, append-nil}
use Rattle.std.proofs.lemmas.List.Elements.{filter-append}
use Rattle.lru_plain.specs.Shape.{Shape}
use Rattle.lru_plain.specs.Cache.{Cache, plain}
use Rattle.lru_plain.proofs.Plains.{plain_more}
use Rattle.predictor.specs.declared.kind.PredictorKind.{PredictorKind}
use Rattle.predictor.specs.Tables.{Tables}
use Rattle.predictor.specs.Rules.{trained, observed}
use Rattle.predictor.proofs.Trains.{trained_more}
use Rattle.rv_exec.specs.Event.{is_transfer}
use Rattle.rv_exec.specs.declared.event.DataRef.{DataRef}
use Rattle.rv_exec.specs.declared.event.Event.{Event}
use Rattle.rv_exec.specs.declared.event.Flow.{Flow}
use Rattle.rv_exec.specs.declared.event.Flow.TheVariants.{Straight, Branch, Jal, Jalr}
use Rattle.hierarchy.specs.declared.places.Places.{Places}
use Rattle.hierarchy.specs.declared.state.State.{State}
use Rattle.rv_exec.specs.References.{fetches, data_of, data_refs, all_refs, transfers}
use Rattle.hierarchy.specs.Lookup.{touched_at, after_fetch, after_reference}
use Rattle.hierarchy.specs.State.{after_event, after_events}
use Rattle.hierarchy.specs.Warming.{cache_after, caches_after, warmed}

-- one instruction more in each list
pub fetches_more : (es : List Event) (e : Event) → fetches (es ++ e ∷ []) ≡ fetches es ++ e.pc ∷ []
unfolding fetches
fetches_more es e = map-append (λ (x : Event). x.pc) es (e ∷ [])

pub data_more : (es : List Event) (e : Event) → data_refs (es ++ e ∷ []) ≡ data_refs es ++ data_of e.access
unfolding data_refs
data_more [] e = append-nil (data_of e.access)
data_more (x ∷ es) e =
    ap (λ (l : List ℕ). data_of x.access ++ l) (data_more es e)
    ∙ sym (append_assoc (data_of x.access) (data_refs es) (data_of e.access))

pub all_more : (es : List Event) (e : Event) → all_refs (es ++ e ∷ []) ≡ all_refs es ++ e.pc ∷ data_of e.access
unfolding all_refs
all_more [] e = ap (λ (l : List ℕ). e.pc ∷ l) (append-nil (data_of e.access))
all_more (x ∷ es) e =
    ap (λ (l : List ℕ). x.pc ∷ (data_of x.access ++ l)) (all_more es e)
    ∙ ap (λ (l : List ℕ). x.pc ∷ l)
    (sym (append_assoc (data_of x.access) (all_refs es) (e.pc ∷ data_of e.access)))

-- a touch of each cache that an address goes to
touched_more : (g : Shape) (addrs : List ℕ) (addr : ℕ) → touched_at (cache_after g addrs) addr ≡ cache_after g (addrs ++ addr ∷ [])
touched_more g addrs addr = rw (plain_more addrs addr g) refl

fetched_more :
    (g : Places Shape) (fs ds bs : List ℕ) (pc : ℕ)
    → after_fetch (caches_after g fs ds bs) pc ≡ caches_after g (fs ++ pc ∷ []) ds (bs ++ pc ∷ [])
fetched_more g fs ds bs pc =
    rw (touched_more g.itlb fs pc, touched_more g.l1i fs pc, touched_more g.l2 bs pc) refl

referred_more :
    (g : Places Shape) (fs ds bs : List ℕ) (access : Option DataRef)
    → after_reference (caches_after g fs ds bs) access
    ≡ caches_after g fs (ds ++ data_of access) (bs ++ data_of access)
referred_more g fs ds bs None = rw (append-nil ds, append-nil bs) refl
referred_more g fs ds bs (Some d) =
    rw (touched_more g.dtlb ds d.addr, touched_more g.l1d ds d.addr, touched_more g.l2 bs d.addr) refl

pub transfers_more :
    (es : List Event) (e : Event)
    → transfers (es ++ e ∷ []) ≡ transfers es ++ filter (λ x. is_transfer x.control) (e ∷ [])
unfolding transfers
transfers_more es e = filter-append (λ (x : Event). is_transfer x.control) es (e ∷ [])

-- what goes straight on teaches a predictor nothing
observed_straight : (t : Tables) (e : Event) → e.control ≡ Straight → observed t e ≡ t
observed_straight t e is = rw is refl

trained_by :
    (kind : PredictorKind) (es : List Event) (e : Event) (flow : Flow) → e.control ≡ flow
    → observed (trained kind es) e ≡ trained kind (es ++ filter (λ x. is_transfer x.control) (e ∷ []))
trained_by kind es e Straight is =
    let none : filter (λ x. is_transfer x.control) (e ∷ []) ≡ [] = rw is refl in
    rw (none, append-nil es) (observed_straight (trained kind es) e is)
trained_by kind es e (Branch taken) is =
    let one : filter (λ x. is_transfer x.control) (e ∷ []) ≡ e ∷ [] = rw is refl in
    rw one (sym (trained_more kind es e))
trained_by kind es e (Jal push) is =
    let one : filter (λ x. is_transfer x.control) (e ∷ []) ≡ e ∷ [] = rw is refl in
    rw one (sym (trained_more kind es e))
trained_by kind es e (Jalr pop push) is =
    let one : filter (λ x. is_transfer x.control) (e ∷ []) ≡ e ∷ [] = rw is refl in
    rw one (sym (trained_more kind es e))

predictor_more :
    (kind : PredictorKind) (es : List Event) (e : Event)
    → observed (trained kind (transfers es)) e ≡ trained kind (transfers (es ++ e ∷ []))
predictor_more kind es e =
    trained_by kind (transfers es) e e.control refl
    ∙ ap (trained kind) (sym (transfers_more es e))

caches_more :
    (g : Places Shape) (es : List Event) (e : Event)
    → after_reference (after_fetch (caches_after g (fetches es) (data_refs es) (all_refs es)) e.pc) e.access
    ≡ caches_after g (fetches (es ++ e ∷ [])) (data_refs (es ++ e ∷ [])) (all_refs (es ++ e ∷ []))
caches_more g es e =
    rw (fetches_more es e, data_more es e, all_more es e)
    (ap (λ (c : Places Cache). after_reference c e.access)
    (fetched_more g (fetches es) (data_refs es) (all_refs es) e.pc)
    ∙ referred_more g (fetches es ++ e.pc ∷ []) (data_refs es) (all_refs es ++ e.pc ∷ []) e.access
    ∙ ap (λ (l : List ℕ). caches_after g (fetches es ++ e.pc ∷ []) (data_refs es ++ data_of e.access) l)
    (append_assoc (all_refs es) (e.pc ∷ []) (data_of e.access)))

same_state :
    (a b : Places Cache) (x y : Tables) → a ≡ b → x ≡ y
    → (let s : State = record { caches = a; predictor = x } in let t : State = record { caches = b; predictor = y } in s ≡ t)
same_state a b x y h k = rw (h, k) refl

pub warmed_more :
    (g : Places Shape) (kind : PredictorKind) (es : List Event) (e : Event)
    → after_event (warmed g kind es) e ≡ warmed g kind (es ++ e ∷ [])
unfolding warmed after_event
warmed_more g kind es e = same_state _ _ _ _ (caches_more g es e) (predictor_more kind es e)

pub feeding :
    (g : Places Shape) (kind : PredictorKind) (es fs : List Event)
    → after_events (warmed g kind es) fs ≡ warmed g kind (es ++ fs)
unfolding after_events
feeding g kind es [] = ap (warmed g kind) (sym (append-nil es))
feeding g kind es (f ∷ fs) =
    ap (λ (s : State). after_events s fs) (warmed_more g kind es f)
    ∙ feeding g kind (es ++ f ∷ []) fs
    ∙ ap (warmed g kind) (append_assoc es (f ∷ []) fs)

-- before any instruction
pub warmed_none :
    (g : Places Shape) (kind : PredictorKind)
    → warmed g kind [] ≡ record { caches = caches_after g [] [] []; predictor = trained kind [] }
unfolding warmed fetches data_refs all_refs transfers
warmed_none g kind = refl

with_sets : (g : Shape) (c : Cache) (sets now : List (List ℕ)) → c ≡ record { shape = g; sets = sets } → c.sets ≡ now
    → c ≡ record { shape = g; sets = now }
with_sets g c sets now is empty =
    is ∙ rw (← empty, is) refl

-- a new cache, by what is told of it
pub empty_cache :
    (g : Shape) (c : Cache) (sets : List (List ℕ)) → c ≡ record { shape = g; sets = sets } → c.sets ≡ plain [] g
    → c ≡ cache_after g []
empty_cache g c sets is empty = with_sets g c sets (plain [] g) is empty

-- caches and a predictor that are all new
pub same_caches :
    (g : Places Shape) (kind : PredictorKind) (l1i l1d l2 itlb dtlb : Cache) (predictor : Tables)
    → l1i ≡ cache_after g.l1i [] → l1d ≡ cache_after g.l1d [] → l2 ≡ cache_after g.l2 []
    → itlb ≡ cache_after g.itlb [] → dtlb ≡ cache_after g.dtlb [] → predictor ≡ trained kind []
    → (let s : State = record {
      caches = record { l1i = l1i; l1d = l1d; l2 = l2; itlb = itlb; dtlb = dtlb };
      predictor = predictor;
    } in s ≡ warmed g kind [])
same_caches g kind l1i l1d l2 itlb dtlb predictor h1 h2 h3 h4 h5 h6 =
    rw (h1, h2, h3, h4, h5, h6, warmed_none g kind) refl
