use Rattle.std.proofs.Common.{rules, ◌≡◌, ◌∷◌, [], Ok}
use Rattle.std.proofs.lemmas.Result.{err_from_is_err_and}
use Rattle.elf_image.specs.Rules.{verdict, file_rules, Interpreter}
use Rattle.elf_image.proofs.Verdicts.{refused_by_headers, refused_by_segments, let_on}
use Rattle.elf_image.proofs.reading.judge_and_load.Goals as goal

pub returns-in_err-segments : goal.returns-in_err-segments
returns-in_err-segments c =
    let p = err_from_is_err_and c.from_residual-in_err-segments.result c.from_residual-in_err-segments.ensures.1 in
    let kept : verdict c.args.bytes.now file_rules ≡ Ok tt = search rules in
    rw (p.1, p.2)
    (refused_by_headers c.args.bytes.now c.in_err-segments.field-0.0 kept c.in_err-segments.ensures)

pub returns-in_err-judge_segments : goal.returns-in_err-judge_segments
returns-in_err-judge_segments c =
    let p = err_from_is_err_and c.from_residual-in_err-judge_segments.result c.from_residual-in_err-judge_segments.ensures.1 in
    let kept : verdict c.args.bytes.now file_rules ≡ Ok tt = search rules in
    let named : verdict c.args.bytes.now (Interpreter ∷ []) ≡ Ok tt = let_on _ _ _ c.in_ok-segments.ensures in
    rw (p.1, p.2)
    (refused_by_segments c.args.bytes.now c.in_err-judge_segments.field-0.0 kept named
    c.in_err-judge_segments.ensures)
