-- The refusal of a module, and the frames of its signatures.
use Rattle.std.proofs.Common.{◌≡◌, ◌∙◌, refl, ap, subst, ◌<◌, ◌≤◌, arith, length, Bool, true, false, cond, List, [], ◌∷◌, Option, Some, None}
use Rattle.std.specs.Prelude.{All, bytes_eq}
use Rattle.std.proofs.lemmas.List.Elements.{All-head, All-tail}
use Rattle.bed_lang.specs.declared.module.Module.{Module}
use Rattle.bed_lang.specs.declared.module.Signature.{Signature}
use Rattle.bed_lang.specs.declared.condition.Decls.{Decls}
use Rattle.bed_names.specs.declared.error.NameError.{NameError}
use Rattle.bed_lang.specs.Declarations.{declarations}
use Rattle.bed_lang.specs.Lookups.{first_signature}
use Rattle.bed_names.specs.Faults.{noted, refusal}
use Rattle.bed_names.specs.Modules.{name_spaces_faults, items_faults, faults}
use Rattle.bed_names.specs.Statements.{frame}
use Rattle.bed_names.specs.Tables.{FramesFit}
use Rattle.bed_names.proofs.NotedLemmas.{two_notes}

-- what is left of all faults of a module is its refusal
pub whole_refusal : (m : Module) (d : Decls) (found all : Option NameError) → d ≡ declarations m
    → found ≡ noted None (name_spaces_faults (declarations m)) → all ≡ noted found (items_faults d m) → all ≡ refusal (faults m)
whole_refusal m d found all e hf ha =
    two_notes None found all (name_spaces_faults (declarations m)) (items_faults (declarations m) m) (faults m) refl hf
    (ha ∙ ap (λ x. noted found (items_faults x m)) e)

abbrev Small : Signature → Type 0
Small s = (length s.params ≤ 60) × (s.reserve ≤ 4096)

first_fits : (b : Bool) (t s : Signature) (more : Option Signature) → Small t → (more ≡ Some s → frame s < 4294967296)
    → cond b (Some t) more ≡ Some s → frame s < 4294967296
first_fits true t s more small later e =
    let same : t ≡ s = cc in subst (λ x. frame x < 4294967296) same (omega arith)
first_fits false t s more small later e = later e

pub frames_fit : (ss : List Signature) → All (λ s. (length s.params ≤ 60) × (s.reserve ≤ 4096)) ss → FramesFit ss
frames_fit [] all x s e = absurd (cc)
frames_fit (t ∷ ss) all x s e =
    first_fits (bytes_eq t.name.bytes x) t s (first_signature ss x) (All-head Small t ss all)
    (frames_fit ss (All-tail Small t ss all) x s) e
