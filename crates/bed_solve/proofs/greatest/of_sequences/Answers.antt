use Rattle.std.proofs.Common.{◌++◌, ap, sym, ◌∙◌}
use Rattle.bed_plain.specs.Solving.{piece_variables}
use Rattle.bed_lang.specs.Forms.{seq_form}
use Rattle.bed_solve.proofs.GreatestLemmas.{piece_variables-append}
use Rattle.bed_solve.proofs.greatest.of_sequences.Goals as goal

pub returns : goal.returns
returns c =
    c.in_ok-append.ensures ∙ ap (λ vs. vs ++ c.in_ok-more.more) c.in_ok-out.ensures ∙ ap (λ vs. piece_variables (seq_form c.args.s.now) ++ vs) c.in_ok-more.ensures
    ∙ sym (piece_variables-append (seq_form c.args.s.now) (seq_form c.args.t.now))
