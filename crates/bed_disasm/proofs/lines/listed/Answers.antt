-- What follows the text so far follows it with a line more, too; at the end of the code nothing follows.
use Rattle.std.proofs.Common.{◌≡◌, ◌+◌, ◌≤◌, ◌++◌, length, ap, subst, ◌∙◌, arith}
use Rattle.bed_disasm.specs.Listing.{IsListed, name_lines}
use Rattle.bed_disasm.proofs.ListingLemmas.{one_more, all_listed}
use Rattle.bed_disasm.proofs.lines.listed.Goals as goal

pub loop-at-preserved : goal.loop-at-preserved
loop-at-preserved c =
    let code = c.args.i.now.code in
    let symbols = c.args.i.now.symbols in
    let size : c.from-at-in-loop-at.result ≡ c.in_ok-size.size = c.from-at-in-loop-at.ensures in
    let within : c.loop-at.at + c.in_ok-size.size ≤ code.base + length code.bytes = c.in_ok-size.ensures.within in
    record {
      after = omega arith;
      within = omega arith;
      text = λ rest listed. one_more code symbols c.loop-at.at c.in_ok-size.size c.loop-at.text.items _ _ c.loop-at.invariant.text
          (c.in_ok-push_names.ensures ∙ ap (λ l. c.loop-at.text.items ++ name_lines l c.loop-at.at) c.as_slice.ensures)
          c.in_ok-size.ensures.line (omega arith, omega arith) rest (subst (λ n. IsListed code symbols (c.loop-at.at + n) rest) size listed);
    }

pub returns : goal.returns
returns c =
    let a = c.loop-at.invariant.within in
    let b = c.loop-at-test.false in
    let e = c.end_of-end.ensures.end in
    all_listed c.args.i.now.code c.args.i.now.symbols c.loop-at.at c.loop-at.text.items c.loop-at.invariant.text (omega arith)
