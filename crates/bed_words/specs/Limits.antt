-- The limits on what a command counts.
use Rattle.std.specs.Prelude.{ℕ, Bool, false, ◌||◌, nat_lt, length, if◌then◌else◌, Option, None, Some}
use Rattle.std.specs.Option.{option_or}
use Rattle.bed_words.specs.declared.command.Command.{Command}
use Rattle.bed_words.specs.declared.command.Command.TheVariants as command
use Rattle.bed_words.specs.declared.command.Job.{Job}
use Rattle.bed_words.specs.declared.command.Start.{Start}
use Rattle.bed_lang.specs.declared.limit.Which.{Which}
use Rattle.bed_lang.specs.declared.limit.Which.TheVariants as which

-- more than 64 modules, or more than 1,024 imports
abbrev pub job_limit : Job → Option Which
job_limit job =
    if nat_lt 64 (length job.modules) then Some which.Modules else (
    if nat_lt 1024 (length job.imports) then Some which.Imports else None)

abbrev pub is_large_block : Option (ℕ × ℕ) → Bool
is_large_block None = false
is_large_block (Some block) = nat_lt 1048576 block.1

-- more than 10,000,000 steps, 1,024 traced instructions, or 1,048,576 words of a frame or a block
abbrev pub start_limit : Start → Option Which
start_limit start =
    if nat_lt 10000000 start.steps then Some which.Steps else (
    if nat_lt 1024 start.trace then Some which.Trace else (
    if nat_lt 1048576 start.words || is_large_block start.block then Some which.Words else None))

-- the first limit that a command passes, in the order modules, imports, steps, trace, words
abbrev pub limit_of : Command → Option Which
limit_of (command.Link job) = job_limit job
limit_of (command.Check job) = job_limit job
limit_of (command.Run job start) = option_or (job_limit job) (start_limit start)
limit_of (command.Exec image start) = start_limit start
limit_of (command.Disasm image) = None
limit_of (command.Conditions job) = job_limit job
limit_of (command.Gen k) = None
