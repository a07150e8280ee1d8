use Rattle.std.proofs.Common.{◌≡◌, ap, ◌∙◌, ◌++◌, ◌∷◌, [], sym}
use Rattle.rv_exec.specs.References.{fetches, data_refs, all_refs}
use Rattle.warming.specs.Learning.{Learnt}
use Rattle.warming.proofs.LearningLemmas.{learnt_more}
use Rattle.warming.proofs.learning.Learner.learn.Goals as goal

pub returns : goal.returns
returns c = λ records events was.
    let is = c.self.view_is ∙ was in
    let fetched =
    c.fetch.ensures.records records.places (fetches events) (data_refs events) (all_refs events) (ap (λ (l : Learnt). l.places) is) in
    let referred = c.refer.ensures records.places (fetches events ++ c.args.event.now.pc ∷ []) (data_refs events) (all_refs events ++ c.args.event.now.pc ∷ []) fetched in
    learnt_more records events c.args.event.now c.refer.new.places c.self.inside.predictors.items c.observe_each.new.predictors.items referred
    (ap (λ (l : Learnt). l.images) is) c.observe_each.ensures
