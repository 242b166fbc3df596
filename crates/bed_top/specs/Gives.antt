-- What the functions of the stages give.
use Rattle.std.specs.Prelude.{◌≡◌, ℕ, List, [], ◌∷◌, map, Result, Ok, Err, Vec}
use Rattle.std.proofs.Common.{inl, inr}
use Rattle.std.specs.declared.alloc.Global.{Global}
use Rattle.bed_names.specs.InScope.{InScope}
use Rattle.bed_lang.specs.declared.module.Module.{Module}
use Rattle.bed_words.specs.declared.command.CommandError.{CommandError}
use Rattle.bed_words.specs.declared.command.CommandError.TheVariants as words
use Rattle.bed_words.specs.declared.command.Job.{Job}
use Rattle.bed_top.specs.Views.{View, End, Refusal, refusal_of, refused, Written, Source, source}
use Rattle.bed_top.specs.Stages.{Stage, Ends}
use Rattle.bed_top.specs.Lines.{text_of}
use Rattle.bed_top.specs.Work.{link_end}
use Rattle.bed_top.specs.Chains.{linking}
use Rattle.bed_top.specs.declared.line.Line.{Line}
use Rattle.bed_top.specs.declared.line.Line.TheVariants as line
use Rattle.bed_top.specs.declared.status.Status.{Status}
use Rattle.bed_top.specs.declared.status.Status.TheVariants.{Usage, Limit}
use Rattle.bed_top.specs.declared.plan.Stop.{Stop}
use Rattle.bed_top.specs.declared.plan.Stop.TheVariants.{Refused, Memory}
use Rattle.bed_top.specs.declared.plan.Plan.{Plan}
use Rattle.bed_top.specs.declared.plan.Write.{Write}

-- the texts of buffers, and the modules of scoped modules
abbrev pub texts_of : List (Vec ℕ Global) → List (List ℕ)
texts_of buffers = map (λ (b : Vec ℕ Global). b.items) buffers

abbrev pub modules_of : List InScope → List Module
modules_of scoped = map (λ (s : InScope). s.module) scoped

abbrev pub one_line : Status → Line → Refusal
one_line s line = refusal_of s (text_of line)

-- the stop of words that are no command or pass a limit
abbrev pub stop_of : CommandError → Stop
stop_of (words.Usage word) = Refused (Usage word) (line.Usage word)
stop_of (words.Limit which) = Refused (Limit which) (line.Limit which)
stop_of words.Memory = Memory

-- the work stops with this refusal, or for want of memory
abbrev pub IsStop : Refusal → Stop → Type 0
IsStop r (Refused s line) = one_line s line ≡ r
IsStop r Memory = Unit {0}

abbrev pub Given : {A B X : Type 0} → Stage A B → (X → B) → View → A → Result X Stop → Type 0
Given S see v a (Ok x) = S v a (inr (see x))
Given S see v a (Err (Refused s line)) = S v a (inl (one_line s line))
Given S see v a (Err Memory) = Unit {0}

-- the answer of a function is an outcome of the stage, or want of memory
pub record Gives {A B X : Type 0} (S : Stage A B) (see : X → B) (v : View) (a : A) (result : Result X Stop) : Type 0 where
  pub is : Given S see v a result

-- modules, scoped modules and one module as what comes through
abbrev pub as_read : Job → Vec Module Global → Source
as_read job ms = source job ms.items

abbrev pub as_scoped : Job → Vec InScope Global → Source
as_scoped job ms = source job (modules_of ms.items)

abbrev pub as_one : Job → Module → Source
as_one job m = source job (m ∷ [])

abbrev pub written_of : Write → Written
written_of w = record { name = w.name; bytes = w.bytes.items }

abbrev pub end_of : Plan → End
end_of p = record { status = p.status; writes = map written_of p.writes.items; lines = map text_of p.lines.items }

-- a plan has this end, or a refusal is this end, or memory ran out
abbrev pub Concluded : (End → Type 0) → Result Plan Stop → Type 0
Concluded D (Ok p) = D (end_of p)
Concluded D (Err (Refused s line)) = D (refused (one_line s line))
Concluded D (Err Memory) = Unit {0}

-- the answer of the judgement of a link's texts is due
pub record Judged (job : Job) (v : View) (result : Result Plan Stop) : Type 0 where
  pub is : Concluded (Ends linking job link_end v) result
