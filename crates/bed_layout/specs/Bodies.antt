-- From what the blocks of a function's body keep to what those of the function keep.
use Rattle.std.specs.Prelude.{◌≡◌, ℕ, ◌+◌, ◌≤◌, true, false, not, IsTrue, Some, None, List, [], ◌∷◌, ◌++◌, length}
use Rattle.bed_lang.specs.declared.word.Name.{Name}
use Rattle.bed_lang.specs.declared.word.Sort.TheVariants as sort
use Rattle.bed_lang.specs.declared.statement.Stmt.{Stmt}
use Rattle.bed_lang.specs.Values.{Named, Old}
use Rattle.bed_table.specs.Layout.{is_among}
use Rattle.bed_sat.specs.Assertions.{World}
use Rattle.bed_sat.specs.Conditions.{path_at_entry, body_part}
use Rattle.bed_sat.specs.Scopes.{Scope, assertion_in}
use Rattle.bed_il.specs.declared.blocks.Inst.TheVariants.{SaveReturn}
use Rattle.bed_il.specs.declared.blocks.Jump.TheVariants.{Fall}
use Rattle.bed_il.specs.declared.blocks.Block.{Block}
use Rattle.bed_laws.specs.Activations.{FunctionSite, AreDistinct}
use Rattle.bed_laws.specs.Keeps.{LoopHead, AllHold}
use Rattle.bed_laws.specs.Spans.{Spans}
use Rattle.bed_laws.specs.Statements.{KeepStatements}
use Rattle.bed_layout.specs.Keeping.{KeepsFunction}

-- the block before a function's body: it saves the return address
abbrev pub entry_block : ℕ → Block
entry_block entry = record { label = entry; insts = SaveReturn ∷ []; jump = Fall (entry + 1) }

-- the variables that a signature may speak of: all but the function's further locals, which are none of its own, and the arguments as
-- they were at entry
abbrev pub own_variables : List Name → Scope
own_variables further sort.Word (Named x) = not (is_among further x)
own_variables further sort.Word (Old x) = false
own_variables further sort.Word _ = true
own_variables further sort.Seq _ = true

-- A function's locals are its signature's parameters and then these further ones, all different, and its frame has room for them. The
-- signature speaks of none of the further ones, and of no argument at entry.
pub record IsScoped (c : FunctionSite) (further : List Name) : Type 0 where
  pub locals : c.site.locals ≡ c.signature.params ++ further
  pub distinct : AreDistinct c.site.locals
  pub room : length further ≤ c.signature.reserve
  pub pre : IsTrue (assertion_in (own_variables further) c.signature.pre)
  pub post : IsTrue (assertion_in (own_variables further) c.signature.post)

-- Where the blocks of a body keep the first law, no path leaves the body, and its conditions hold, the function's blocks keep its
-- specification: those of the body behind the one that saves the return address.
abbrev pub BodiesKeep : Type 0
BodiesKeep =
    (w : World) (c : FunctionSite) (further : List Name) (places : ℕ → ℕ) (B : List Block) (heads : List LoopHead) (entry end next : ℕ) (body : List Stmt)
    → IsScoped c further → entry + 1 ≤ end → Spans B heads (entry + 1) end → KeepStatements w c places B heads (entry + 1) next body
    → (body_part c.site body).goes_on (path_at_entry (Some c.signature)) ≡ None
    → AllHold w c ((body_part c.site body).owes (path_at_entry (Some c.signature)))
    → KeepsFunction w c places (entry_block entry ∷ B) heads entry
