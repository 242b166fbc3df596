use Rattle.std.proofs.Common.{sym, inl, Ok, Err}
use Rattle.std.specs.Prelude.{string_bytes, map}
use Rattle.bed_words.specs.declared.command.CommandError.TheVariants as error
use Rattle.bed_words.proofs.CommandLaws.{reads-sound, usage_of, refuses, only_answer, passes_limit}
use Rattle.bed_words.proofs.call.read_command.Goals as goal

pub returns-in-Err-clause-usage : goal.returns-in-Err-clause-usage
returns-in-Err-clause-usage c = λ word e. usage_of (map string_bytes c.args.words.now) c.in-Err.error word c.in-Err.ensures e

pub returns-in-Err-clause-only : goal.returns-in-Err-clause-only
returns-in-Err-clause-only c =
    λ answer is. only_answer (map string_bytes c.args.words.now) (Err c.in-Err.error) answer
    (refuses (map string_bytes c.args.words.now) c.in-Err.error c.in-Err.ensures) is

pub returns-in-None-clause-ok : goal.returns-in-None-clause-ok
returns-in-None-clause-ok c = (reads-sound (map string_bytes c.args.words.now) c.in-Ok.command c.in-Ok.ensures, sym c.in-None.ensures)

pub returns-in-None-clause-only : goal.returns-in-None-clause-only
returns-in-None-clause-only c =
    λ answer is. only_answer (map string_bytes c.args.words.now) (Ok c.in-Ok.command) answer
    (inl (reads-sound (map string_bytes c.args.words.now) c.in-Ok.command c.in-Ok.ensures, sym c.in-None.ensures)) is

pub returns-in-Some-clause-limit : goal.returns-in-Some-clause-limit
returns-in-Some-clause-limit c =
    λ which e. passes_limit (map string_bytes c.args.words.now) c.in-Ok.command c.in-Some.which which
    (reads-sound (map string_bytes c.args.words.now) c.in-Ok.command c.in-Ok.ensures) (sym c.in-Some.ensures) e

pub returns-in-Some-clause-only : goal.returns-in-Some-clause-only
returns-in-Some-clause-only c =
    λ answer is. only_answer (map string_bytes c.args.words.now) (Err (error.Limit c.in-Some.which)) answer
    (inl (c.in-Ok.command, (reads-sound (map string_bytes c.args.words.now) c.in-Ok.command c.in-Ok.ensures, sym c.in-Some.ensures))) is
