-- Functions that keep to what the laws of blocks ask.
use Rattle.std.specs.Prelude.{◌≡◌, ℕ, ◌≤◌, true, false, Some, None, List, ◌++◌, length, Contains}
use Rattle.bed_lang.specs.declared.word.Name.{Name}
use Rattle.bed_lang.specs.declared.word.Sort.TheVariants as sort
use Rattle.bed_lang.specs.declared.module.Signature.{Signature}
use Rattle.bed_lang.specs.declared.module.Function.{Function}
use Rattle.bed_lang.specs.declared.module.Module.{Module}
use Rattle.bed_lang.specs.declared.condition.Decls.{Decls}
use Rattle.bed_lang.specs.Declarations.{declarations}
use Rattle.bed_lang.specs.Lookups.{first_signature}
use Rattle.bed_lang.specs.Values.{Variable, Named, Answer, Fresh, Hole}
use Rattle.bed_table.specs.Code.{locals_of, body_piece}
use Rattle.bed_sat.specs.Written.{written}
use Rattle.bed_sat.specs.Assertions.{World}
use Rattle.bed_sat.specs.Conditions.{Path, site_of, body_part}
use Rattle.bed_sat.specs.Declarations.{Extends}
use Rattle.bed_sat.specs.Scopes.{Scope, assertion_in}
use Rattle.bed_names.specs.Faults.{refusal}
use Rattle.bed_names.specs.Modules.{faults}
use Rattle.bed_names.specs.Resolved.{resolved}
use Rattle.bed_il.specs.Fit.{FitFunction}
use Rattle.bed_laws.specs.Activations.{FunctionSite, IsAmong, AreDistinct}
use Rattle.bed_laws.specs.Keeps.{Law}
use Rattle.bed_laws.specs.Lays.{Lays}
use Rattle.bed_bodies.specs.Demands.{AreMet}
use Rattle.bed_bodies.specs.Bodies.{body_built}
use Rattle.bed_bodies.specs.Functions.{function_blocks, function_heads, end_of, whole_piece}

-- where a function of a module stands, with its signature
abbrev pub site_with : Module → Function → Signature → FunctionSite
site_with m f S = record { site = site_of m f; signature = S }

-- a set of variables has all but a function's further locals and the arguments as they were at entry
pub record HasOwn (further : List Name) (P : Scope) : Type 0 where
  pub words : (x : List ℕ) → (IsAmong further x → ⊥) → P sort.Word (Named x) ≡ true
  pub answer : P sort.Word Answer ≡ true
  pub fresh : (k : ℕ) → P sort.Word (Fresh k) ≡ true
  pub hole : P sort.Word Hole ≡ true
  pub lists : (x : Variable) → P sort.Seq x ≡ true

-- A function of a module is regular: its signature is declared; its locals are the signature's parameters and then its further ones, all
-- different, and the frame has room for them; the signature speaks of no further local, and of no argument at entry; what its body demands is met, whatever else is declared beside; and control doesn't come to
-- the end of its body.
pub record IsRegular (m : Module) (f : Function) : Type 0 where
  pub signature : Signature
  pub declared : first_signature m.signatures f.signature.bytes ≡ Some signature
  pub locals : locals_of m.signatures f ≡ signature.params ++ f.locals
  pub distinct : AreDistinct (locals_of m.signatures f)
  pub room : length f.locals ≤ signature.reserve
  pub own : (P : Scope) → HasOwn f.locals P → (assertion_in P signature.pre ≡ true) × (assertion_in P signature.post ≡ true)
  pub met : (d : Decls) → Extends (declarations m) d → AreMet d (site_with m f signature) (body_built (written f.body)).demands
  pub stops : (body_piece (written f.body)).falls ≡ false

-- each function of a module that breaks no rule of names is regular, once no bare argument is left
abbrev pub ScopedAreRegular : Type 0
ScopedAreRegular = (m : Module) (f : Function) → refusal (faults m) ≡ None → Contains (resolved m).functions f → IsRegular (resolved m) f

-- The blocks of a function keep the laws: they fit, are the code table's bytes of the entry and the body, and from the first label of the
-- body on keep their specification, whatever else is declared beside, for every path that comes there; no path leaves the body.
pub record KeepsLaws (m : Module) (f : Function) (S : Signature) : Type 0 where
  pub fit : FitFunction (function_blocks (locals_of m.signatures f) (written f.body)) 0
  pub lays : Lays (locals_of m.signatures f) (function_blocks (locals_of m.signatures f) (written f.body)) (function_heads (written f.body)) 0 (end_of (written f.body)) (whole_piece (written f.body))
  pub keeps : (w : World) → Extends (declarations m) w.decls → (places : ℕ → ℕ) (from : Path)
      → Law w (site_with m f S) places ((body_built (written f.body)).code (locals_of m.signatures f) 1 (end_of (written f.body))) (function_heads (written f.body)) 1 (end_of (written f.body))
      ((body_part (site_of m f) (written f.body)).owes from) from None

-- those of a regular function do
abbrev pub RegularKeepLaws : Type 0
RegularKeepLaws = (m : Module) (f : Function) (r : IsRegular m f) (d : Decls) → Extends (declarations m) d → KeepsLaws m f r.signature
