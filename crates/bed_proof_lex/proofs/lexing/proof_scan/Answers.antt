use Rattle.std.proofs.Common.{◌∙◌, ◌-◌, sym, subst, length, take, drop}
use Rattle.bed_proof_lex.specs.declared.piece.Piece.{Piece}
use Rattle.bed_proof_lex.specs.Tokens.{Extends}
use Rattle.bed_proof_lex.proofs.ScanLemmas.{fits, at_stop, at_blank, at_token}
use Rattle.bed_proof_lex.proofs.lexing.proof_scan.Goals as goal

pub returns-in-Stop : goal.returns-in-Stop
returns-in-Stop c = at_stop c.args.text.now c.loop-tokens.place c.loop-tokens.tokens c.in-Stop.fault c.loop-tokens.invariant.so_far (sym c.in-Stop.is ∙ c.in_ok-fault.ensures.exact)

pub loop-tokens-preserved-in-Blank : goal.loop-tokens-preserved-in-Blank
loop-tokens-preserved-in-Blank c =
    let sized = subst (λ (p : Piece). Extends p (length (take (length c.args.text.now - c.loop-tokens.place) (drop c.loop-tokens.place c.args.text.now)))) c.in-Blank.is c.in_ok-fault.ensures.sized in
    record {
      within = fits c.args.text.now c.loop-tokens.place c.in-Blank.size c.loop-tokens.invariant.within sized.1;
      so_far = at_blank c.args.text.now c.loop-tokens.place c.in-Blank.size c.loop-tokens.tokens c.loop-tokens.invariant.so_far (sym c.in-Blank.is ∙ c.in_ok-fault.ensures.exact);
    }

pub loop-tokens-preserved : goal.loop-tokens-preserved
loop-tokens-preserved c =
    let sized = subst (λ (p : Piece). Extends p (length (take (length c.args.text.now - c.loop-tokens.place) (drop c.loop-tokens.place c.args.text.now)))) c.in-Token.is c.in_ok-fault.ensures.sized in
    record {
      within = fits c.args.text.now c.loop-tokens.place c.in-Token.size c.loop-tokens.invariant.within sized.1;
      so_far = at_token c.args.text.now c.loop-tokens.place c.in-Token.size c.in-Token.token c.loop-tokens.tokens c.push.new.self c.loop-tokens.invariant.so_far
          (sym c.in-Token.is ∙ c.in_ok-fault.ensures.exact) c.in_ok-push-in-Token.ensures.ok;
    }
