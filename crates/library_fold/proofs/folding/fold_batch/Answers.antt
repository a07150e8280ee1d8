use Rattle.std.proofs.Common.{◌≡◌, ◌+◌, ℕ, true, rules, ap, ◌∙◌, length}
use Rattle.std.proofs.lemmas.List.{length-map}
use Rattle.ordered_fold.specs.declared.front.Front.{Front}
use Rattle.library_fold.proofs.FoldLemmas.{either_way, err_as, fold_empty, fold_is, fold_over, ok_on}
use Rattle.ordered_fold.proofs.BatchLemmas.{going_of}
use Rattle.ordered_fold.specs.Front.{is_going}
use Rattle.library_fold.proofs.folding.fold_batch.Goals.{then-is_empty-via-then-is_empty, then-is_empty-via-else-is_empty+then-not-is_going}
use Rattle.library_fold.proofs.folding.fold_batch.Goals as goal

pub returns-then-is_empty-clause-folded : goal.returns-then-is_empty-clause-folded
returns-then-is_empty-clause-folded g c = λ setup alike.
    elim c.then-is_empty.branch [
      | then-is_empty-via-then-is_empty w ↦
          let none : length c.args.batch.now ≡ 0 = search rules in
          fold_empty setup c.args.crew.now.front c.args.batch.now none
      | then-is_empty-via-else-is_empty+then-not-is_going w ↦
          fold_over setup c.args.crew.now.front c.args.batch.now (search rules)
    ]

pub returns-clause-folded : goal.returns-clause-folded
returns-clause-folded g c =
    ok_on c.run_batch.result _ _
    (λ _ run setup alike. (run setup alike).2.front ∙ fold_is c.args.crew.now.front _)
    c.run_batch.ensures.run

pub returns-clause-going : goal.returns-clause-going
returns-clause-going g c =
    let takes = c.requires.takes in
    let goes : is_going c.args.crew.now.front.ending ≡ true = search rules in
    ok_on c.run_batch.result _ _
    (λ _ run still. (going_of c.args.crew.now.front.ending goes, (run takes.0 takes.1).2.going still ∙ ap (λ (n : ℕ). c.args.crew.now.front.sums.n + n) (length-map c.args.batch.now _)))
    c.run_batch.ensures.run

pub returns-clause-total : goal.returns-clause-total
returns-clause-total g c =
    let takes = c.requires.takes in
    either_way c.run_batch.result _
    (ok_on c.run_batch.result _ _ (λ _ run. (run takes.0 takes.1).2.total) c.run_batch.ensures.run)
    (err_as c.run_batch.result _ _ (λ _ same. ap (λ (f : Front). f.total) same.0) c.run_batch.ensures.err)
