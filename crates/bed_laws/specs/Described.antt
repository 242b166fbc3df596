-- Which states of an activation a path describes. A path speaks of the source, so this is what ties blocks to conditions.
use Rattle.std.specs.Prelude.{◌≡◌, ℕ, IsTrue, Some, None, Option, IsSome, List, [], ◌∷◌, Contains, take}
use Rattle.bed_lang.specs.Numbers.{wrap}
use Rattle.bed_machine.specs.Memory.{Memory, word_at, put_byte, put_word}
use Rattle.bed_lang.specs.declared.word.Name.{Name}
use Rattle.bed_lang.specs.declared.module.Action.{Action}
use Rattle.bed_lang.specs.declared.module.Action.TheVariants.{Assign, Compute, Load, LoadByte, Store, StoreByte, Assume}
use Rattle.bed_lang.specs.Values.{Values, Named, Old}
use Rattle.bed_lang.specs.Lookups.{count_of_params}
use Rattle.bed_sat.specs.Assertions.{World, Holds}
use Rattle.bed_sat.specs.Valid.{op_result, operand_value, place_value, IsTrueTest, set_local, After}
use Rattle.bed_sat.specs.Conditions.{Path}
use Rattle.bed_il.specs.BlockMachine.{BlockState}
use Rattle.bed_laws.specs.Activations.{FunctionSite, Activation, IsStateOf}

module _ (labels : List ℕ → ℕ) where
  -- the actions lead from values and memory to others: no access fails, and each assumed test is true
  abbrev pub Leads : List Action → Values → Memory → Values → Memory → Type 0
  Leads [] ν h μ g = (ν ≡ μ) × (h ≡ g)
  Leads (Assign x a ∷ more) ν h μ g = Leads more (set_local ν x (operand_value labels ν a)) h μ g
  Leads (Compute x op a b ∷ more) ν h μ g = Leads more (set_local ν x (op_result op (operand_value labels ν a) (operand_value labels ν b))) h μ g
  Leads (Load x p ∷ more) ν h μ g = (v : ℕ) × (word_at h (place_value labels ν p) ≡ Some v) × Leads more (set_local ν x v) h μ g
  Leads (LoadByte x p ∷ more) ν h μ g = (v : ℕ) × (h (place_value labels ν p) ≡ Some v) × Leads more (set_local ν x v) h μ g
  Leads (Store p a ∷ more) ν h μ g =
      IsSome (word_at h (place_value labels ν p)) × Leads more ν (put_word h (place_value labels ν p) (operand_value labels ν a)) μ g
  Leads (StoreByte p a ∷ more) ν h μ g =
      IsSome (h (place_value labels ν p)) × Leads more ν (put_byte h (place_value labels ν p) (operand_value labels ν a)) μ g
  Leads (Assume t ∷ more) ν h μ g = IsTrueTest labels ν t × Leads more ν h μ g

module _ (w : World) (c : FunctionSite) where
  -- the start of a path holds: its assertion, and at the entry each argument is as it was at entry
  pub record StartHolds (p : Path) (ν : Values) (h : Memory) : Type 0 where
    pub holds : Holds w ν h p.start
    pub entry : IsTrue p.entry → (x : Name) → Contains (take (count_of_params (Some c.signature)) c.site.locals) x
        → wrap (ν.words (Named x.bytes)) ≡ wrap (ν.words (Old x.bytes))

  -- no action of a path fails before the first assumed test that is false, wherever the path's start holds
  abbrev pub IsSure : Path → Type 0
  IsSure p = (ν : Values) (h : Memory) → StartHolds p ν h → After w.labels p.actions (λ μ g. Unit {0}) ν h

  -- so for a path that may not be there
  abbrev pub AreSure : Option Path → Type 0
  AreSure None = Unit {0}
  AreSure (Some p) = IsSure p

  -- a path describes a state: its actions lead from values and a heap for which its start holds to those of the state
  pub record Describes (a : Activation) (p : Path) (s : BlockState) : Type 0 where
    pub values0 : Values
    pub heap0 : Memory
    pub starts : StartHolds p values0 heap0
    pub values : Values
    pub heap : Memory
    pub leads : Leads w.labels p.actions values0 heap0 values heap
    pub state : IsStateOf c a values heap s
