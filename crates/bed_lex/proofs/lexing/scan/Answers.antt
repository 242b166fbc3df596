use Rattle.std.proofs.Common.{◌++◌, ◌∷◌, [], ◌∙◌, ap}
use Rattle.bed_lex.specs.declared.token.Token.{Token}
use Rattle.bed_lex.proofs.ScanLaws.{fits, at_end, at_bad_byte, at_bad_number, at_long_name, at_skip, at_word, at_number, at_name, name_bytes}
use Rattle.bed_lex.proofs.lexing.scan.Goals as goal

pub returns-in-End : goal.returns-in-End
returns-in-End c = at_end c.args.text.now c.loop-tokens.place c.loop-tokens.tokens c.loop-tokens.invariant.so_far c.in-End.ensures.exact

pub returns-in-BadByte : goal.returns-in-BadByte
returns-in-BadByte c = at_bad_byte c.args.text.now c.loop-tokens.place c.loop-tokens.tokens c.loop-tokens.invariant.so_far c.in-BadByte.ensures.exact

pub returns-in-BadNumber : goal.returns-in-BadNumber
returns-in-BadNumber c = at_bad_number c.args.text.now c.loop-tokens.place c.loop-tokens.tokens c.loop-tokens.invariant.so_far c.in-BadNumber.ensures.exact

pub returns-in-LongName : goal.returns-in-LongName
returns-in-LongName c = at_long_name c.args.text.now c.loop-tokens.place c.loop-tokens.tokens c.loop-tokens.invariant.so_far c.in-LongName.ensures.exact

pub loop-tokens-preserved-in-Skip : goal.loop-tokens-preserved-in-Skip
loop-tokens-preserved-in-Skip c = record {
  within = fits c.args.text.now c.loop-tokens.place c.in-Skip.size c.loop-tokens.invariant.within c.in-Skip.ensures.sized.1;
  so_far = at_skip c.args.text.now c.loop-tokens.place c.in-Skip.size c.loop-tokens.tokens c.loop-tokens.invariant.so_far c.in-Skip.ensures.exact;
}

pub loop-tokens-preserved-in-Word : goal.loop-tokens-preserved-in-Word
loop-tokens-preserved-in-Word c = record {
  within = fits c.args.text.now c.loop-tokens.place c.in-Word.size c.loop-tokens.invariant.within c.in-Word.ensures.sized.1;
  so_far = at_word c.args.text.now c.loop-tokens.place c.in-Word.word c.in-Word.size c.loop-tokens.tokens c.push.new.self c.loop-tokens.invariant.so_far c.in-Word.ensures.exact c.in_ok-push-in-Word.ensures.ok;
}

pub loop-tokens-preserved-in-Number : goal.loop-tokens-preserved-in-Number
loop-tokens-preserved-in-Number c = record {
  within = fits c.args.text.now c.loop-tokens.place c.in-Number.size c.loop-tokens.invariant.within c.in-Number.ensures.sized.1;
  so_far = at_number c.args.text.now c.loop-tokens.place c.in-Number.value c.in-Number.size c.loop-tokens.tokens c.push-in-Number.new.self c.loop-tokens.invariant.so_far c.in-Number.ensures.exact c.in_ok-push-in-Number.ensures.ok;
}

pub loop-tokens-preserved : goal.loop-tokens-preserved
loop-tokens-preserved c = record {
  within = fits c.args.text.now c.loop-tokens.place c.in-Name.size c.loop-tokens.invariant.within c.in-Name.ensures.sized.1;
  so_far = at_name c.args.text.now c.loop-tokens.place c.in-Name.size _ c.loop-tokens.tokens c.push-in-Name.new.self c.loop-tokens.invariant.so_far c.in-Name.ensures.exact
      (name_bytes c.args.text.now c.loop-tokens.place c.in-Name.size)
      (c.in_ok-push-in-Name.ensures.ok ∙ ap (λ (t : Token). c.loop-tokens.tokens ++ t ∷ []) c.in_ok-named-in-Name.ensures);
}
