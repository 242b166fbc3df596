use Rattle.std.proofs.Common.{◌∙◌, sym, subst, Err, []}
use Rattle.std.specs.Prelude.{string_bytes, map}
use Rattle.bed_words.specs.Reading.{Gives, read_options}
use Rattle.bed_words.proofs.CallLemmas.{missing, gives-command, gives-refusal, refusal-small}
use Rattle.bed_words.proofs.call.read_rest.Goals as goal

pub returns-then-lacks_required : goal.returns-then-lacks_required
returns-then-lacks_required c =
    missing string_bytes c.args.verb c.args.words.now c.in-Ok.count c.in-Ok.ensures.counted (sym c.lacks_required.ensures ∙ c.if-lacks_required.true)

pub returns-in-Ok-make : goal.returns-in-Ok-make
returns-in-Ok-make c =
    gives-command string_bytes c.args.verb c.args.words.now c.in-Ok.count c.in-Ok.ensures.counted (sym c.lacks_required.ensures ∙ c.if-lacks_required.false)
    c.in-Ok-make.command c.in-Ok-make.ensures

pub later-requires : goal.later-requires
later-requires c =
    refusal-small string_bytes c.args.verb c.args.words.now c.in-Ok.count c.in-Ok.ensures.counted (sym c.lacks_required.ensures ∙ c.if-lacks_required.false)
    c.in-Err-make.error c.in-Err-make.ensures c.in-Ok.ensures.within c.requires

pub returns-in-Err-make : goal.returns-in-Err-make
returns-in-Err-make c =
    subst (λ e. Gives (read_options c.args.verb [] (map string_bytes c.args.words.now)) (Err e)) (sym c.later.ensures)
    (gives-refusal string_bytes c.args.verb c.args.words.now c.in-Ok.count c.in-Ok.ensures.counted (sym c.lacks_required.ensures ∙ c.if-lacks_required.false)
    c.in-Err-make.error c.in-Err-make.ensures)
