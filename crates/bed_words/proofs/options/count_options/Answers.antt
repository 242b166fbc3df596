use Rattle.std.proofs.Common.{◌≡◌, take, sym, ap, ◌∙◌, true, false}
use Rattle.std.specs.Prelude.{string_bytes, map}
use Rattle.bed_words.specs.Options.{is_option, fits}
use Rattle.bed_words.specs.Reading.{may_come}
use Rattle.bed_words.proofs.LoopLemmas.{ends, empty-plain, first-plain, wrong-option, wrong-end, wrong-value, room, goes_on}
use Rattle.bed_words.proofs.options.count_options.Goals as goal

pub returns-in_default-clause-counted : goal.returns-in_default-clause-counted
returns-in_default-clause-counted c =
    ends string_bytes c.args.verb c.args.words.now c.loop-before.place c.loop-before.invariant.so_far
    (empty-plain string_bytes c.args.verb c.args.words.now c.loop-before.place _ c.in_default.len_below)

pub returns-then-not-option-clause-counted : goal.returns-then-not-option-clause-counted
returns-then-not-option-clause-counted c =
    let plain : is_option (string_bytes c.o-item.result) ≡ false =
    sym (c.option.ensures ∙ ap is_option c.as_str.ensures.value) ∙ c.if-not-option.true in
    ends string_bytes c.args.verb c.args.words.now c.loop-before.place c.loop-before.invariant.so_far
    (first-plain string_bytes c.args.verb c.args.words.now c.loop-before.place _ c.o-item.result c.o-item.is c.in-len1-up.len_at_least plain)

pub returns-then-not-may_follow-clause-wrong : goal.returns-then-not-may_follow-clause-wrong
returns-then-not-may_follow-clause-wrong c =
    let option : is_option (string_bytes c.o-item.result) ≡ true =
    sym (c.option.ensures ∙ ap is_option c.as_str.ensures.value) ∙ c.if-not-option.false in
    let refused : may_come c.args.verb (map string_bytes (take c.loop-before.place c.args.words.now)) (string_bytes c.o-item.result) ≡ false =
    sym (c.may_follow.ensures ∙ ap (may_come c.args.verb (map string_bytes (take c.loop-before.place c.args.words.now))) c.as_str-in-loop-before.ensures.value)
    ∙ c.if-not-may_follow.true in
    wrong-option string_bytes c.args.verb c.args.words.now c.loop-before.place c.o-item.result c.o-item.is c.in-len1-up.len_at_least option
    c.loop-before.invariant.so_far refused

pub returns-in_default-values-clause-wrong : goal.returns-in_default-values-clause-wrong
returns-in_default-values-clause-wrong c =
    let option : is_option (string_bytes c.o-item.result) ≡ true =
    sym (c.option.ensures ∙ ap is_option c.as_str.ensures.value) ∙ c.if-not-option.false in
    let may : may_come c.args.verb (map string_bytes (take c.loop-before.place c.args.words.now)) (string_bytes c.o-item.result) ≡ true =
    sym (c.may_follow.ensures ∙ ap (may_come c.args.verb (map string_bytes (take c.loop-before.place c.args.words.now))) c.as_str-in-loop-before.ensures.value)
    ∙ c.if-not-may_follow.false in
    wrong-end string_bytes c.args.verb c.args.words.now c.loop-before.place c.o-item.result c.o-item.is c.in-len1-up.len_at_least option may
    c.loop-before.invariant.so_far c.in_default-values.len_below

pub returns-then-not-value_fits-clause-wrong : goal.returns-then-not-value_fits-clause-wrong
returns-then-not-value_fits-clause-wrong c =
    let option : is_option (string_bytes c.o-item.result) ≡ true =
    sym (c.option.ensures ∙ ap is_option c.as_str.ensures.value) ∙ c.if-not-option.false in
    let may : may_come c.args.verb (map string_bytes (take c.loop-before.place c.args.words.now)) (string_bytes c.o-item.result) ≡ true =
    sym (c.may_follow.ensures ∙ ap (may_come c.args.verb (map string_bytes (take c.loop-before.place c.args.words.now))) c.as_str-in-loop-before.ensures.value)
    ∙ c.if-not-may_follow.false in
    let unfit : fits (string_bytes c.o-item.result) (string_bytes c.value-item.result) ≡ false =
    sym (c.value_fits.ensures ∙ ap (λ t. fits t c.as_bytes.result.now) c.as_str-in-loop-before-2.ensures.value
    ∙ ap (fits (string_bytes c.o-item.result)) c.as_bytes.ensures.value)
    ∙ c.if-not-value_fits.true in
    wrong-value string_bytes c.args.verb c.args.words.now c.loop-before.place c.o-item.result c.o-item.is c.in-len1-up.len_at_least option may
    c.value-item.result c.value-item.is c.in-len1-up-values.len_at_least c.loop-before.invariant.so_far unfit

pub loop-before-preserved : goal.loop-before-preserved
loop-before-preserved c =
    let option : is_option (string_bytes c.o-item.result) ≡ true =
    sym (c.option.ensures ∙ ap is_option c.as_str.ensures.value) ∙ c.if-not-option.false in
    let may : may_come c.args.verb (map string_bytes (take c.loop-before.place c.args.words.now)) (string_bytes c.o-item.result) ≡ true =
    sym (c.may_follow.ensures ∙ ap (may_come c.args.verb (map string_bytes (take c.loop-before.place c.args.words.now))) c.as_str-in-loop-before.ensures.value)
    ∙ c.if-not-may_follow.false in
    let fitting : fits (string_bytes c.o-item.result) (string_bytes c.value-item.result) ≡ true =
    sym (c.value_fits.ensures ∙ ap (λ t. fits t c.as_bytes.result.now) c.as_str-in-loop-before-2.ensures.value
    ∙ ap (fits (string_bytes c.o-item.result)) c.as_bytes.ensures.value)
    ∙ c.if-not-value_fits.false in
    record {
      within = room string_bytes c.args.verb c.args.words.now c.loop-before.place c.o-item.result c.o-item.is c.in-len1-up.len_at_least option may
          c.value-item.result c.value-item.is c.in-len1-up-values.len_at_least;
      so_far = goes_on string_bytes c.args.verb c.args.words.now c.loop-before.place c.o-item.result c.o-item.is c.in-len1-up.len_at_least option may
          c.value-item.result c.value-item.is c.in-len1-up-values.len_at_least c.loop-before.invariant.so_far fitting;
    }
