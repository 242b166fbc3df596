-- Paths: what holds after their actions, and paths with further actions.
use Rattle.std.proofs.Common.{◌≡◌, ℕ, Some, IsSome, List, [], ◌∷◌, ◌++◌, Option, refl, sym, ◌∙◌, subst}
use Rattle.bed_machine.specs.Memory.{Memory, word_at, put_byte, put_word}
use Rattle.bed_machine.proofs.WordLaws.{some_same}
use Rattle.bed_lang.specs.declared.module.Action.{Action}
use Rattle.bed_lang.specs.declared.module.Action.TheVariants.{Assign, Compute, Load, LoadByte, Store, StoreByte, Assume}
use Rattle.bed_lang.specs.Values.{Values}
use Rattle.bed_sat.specs.Assertions.{World}
use Rattle.bed_sat.specs.Valid.{set_local, After}
use Rattle.bed_sat.specs.Conditions.{Path}
use Rattle.bed_laws.specs.Activations.{FunctionSite}
use Rattle.bed_laws.specs.Described.{Leads, StartHolds, IsSure}

abbrev Post : Type 1
Post = Values → Memory → Type 0

module _ (w : World) where
  -- After is monotone
  pub after_more : (more : List Action) (P Q : Post) → ((ν : Values) (h : Memory) → P ν h → Q ν h) → (ν : Values) (h : Memory) → After w.labels more P ν h → After w.labels more Q ν h
  after_more [] P Q f ν h p = f ν h p
  after_more (Assign x a ∷ more) P Q f ν h p = after_more more P Q f _ h p
  after_more (Compute x o a b ∷ more) P Q f ν h p = after_more more P Q f _ h p
  after_more (Load x q ∷ more) P Q f ν h p = (p.0, p.1, after_more more P Q f _ h p.2)
  after_more (LoadByte x q ∷ more) P Q f ν h p = (p.0, p.1, after_more more P Q f _ h p.2)
  after_more (Store q a ∷ more) P Q f ν h p = (p.0, after_more more P Q f ν _ p.1)
  after_more (StoreByte q a ∷ more) P Q f ν h p = (p.0, after_more more P Q f ν _ p.1)
  after_more (Assume t ∷ more) P Q f ν h p = λ r. after_more more P Q f ν h (p r)

  -- what holds after a list of actions is what holds after its front and then after its back
  pub after_split : (more bs : List Action) (P : Post) (ν : Values) (h : Memory) → After w.labels (more ++ bs) P ν h → After w.labels more (After w.labels bs P) ν h
  after_split [] bs P ν h p = p
  after_split (Assign x a ∷ more) bs P ν h p = after_split more bs P _ h p
  after_split (Compute x o a b ∷ more) bs P ν h p = after_split more bs P _ h p
  after_split (Load x q ∷ more) bs P ν h p = (p.0, p.1, after_split more bs P _ h p.2)
  after_split (LoadByte x q ∷ more) bs P ν h p = (p.0, p.1, after_split more bs P _ h p.2)
  after_split (Store q a ∷ more) bs P ν h p = (p.0, after_split more bs P ν _ p.1)
  after_split (StoreByte q a ∷ more) bs P ν h p = (p.0, after_split more bs P ν _ p.1)
  after_split (Assume t ∷ more) bs P ν h p = λ r. after_split more bs P ν h (p r)

  -- a path that leads to a state has there what holds after it
  pub after_leads : (more : List Action) (P : Post) (ν : Values) (h : Memory) (μ : Values) (g : Memory) → After w.labels more P ν h → Leads w.labels more ν h μ g → P μ g
  after_leads [] P ν h μ g p l = subst (λ k. P μ k) l.1 (subst (λ κ. P κ h) l.0 p)
  after_leads (Assign x a ∷ more) P ν h μ g p l = after_leads more P _ h μ g p l
  after_leads (Compute x o a b ∷ more) P ν h μ g p l = after_leads more P _ h μ g p l
  after_leads (Load x q ∷ more) P ν h μ g p l =
      let same : p.0 ≡ l.0 = some_same (sym p.1 ∙ l.1) in
      after_leads more P _ h μ g (subst (λ v. After w.labels more P (set_local ν x v) h) same p.2) l.2
  after_leads (LoadByte x q ∷ more) P ν h μ g p l =
      let same : p.0 ≡ l.0 = some_same (sym p.1 ∙ l.1) in
      after_leads more P _ h μ g (subst (λ v. After w.labels more P (set_local ν x v) h) same p.2) l.2
  after_leads (Store q a ∷ more) P ν h μ g p l = after_leads more P ν _ μ g p.1 l.1
  after_leads (StoreByte q a ∷ more) P ν h μ g p l = after_leads more P ν _ μ g p.1 l.1
  after_leads (Assume t ∷ more) P ν h μ g p l = after_leads more P ν h μ g (p l.0) l.1

  -- a path goes on
  pub leads_more : (more bs : List Action) (ν : Values) (h : Memory) (μ : Values) (g : Memory) (κ : Values) (k : Memory) → Leads w.labels more ν h μ g → Leads w.labels bs μ g κ k → Leads w.labels (more ++ bs) ν h κ k
  leads_more [] bs ν h μ g κ k l m = subst (λ x. Leads w.labels bs ν x κ k) (sym l.1) (subst (λ x. Leads w.labels bs x g κ k) (sym l.0) m)
  leads_more (Assign x a ∷ more) bs ν h μ g κ k l m = leads_more more bs _ h μ g κ k l m
  leads_more (Compute x o a b ∷ more) bs ν h μ g κ k l m = leads_more more bs _ h μ g κ k l m
  leads_more (Load x q ∷ more) bs ν h μ g κ k l m = (l.0, l.1, leads_more more bs _ h μ g κ k l.2 m)
  leads_more (LoadByte x q ∷ more) bs ν h μ g κ k l m = (l.0, l.1, leads_more more bs _ h μ g κ k l.2 m)
  leads_more (Store q a ∷ more) bs ν h μ g κ k l m = (l.0, leads_more more bs ν _ μ g κ k l.1 m)
  leads_more (StoreByte q a ∷ more) bs ν h μ g κ k l m = (l.0, leads_more more bs ν _ μ g κ k l.1 m)
  leads_more (Assume t ∷ more) bs ν h μ g κ k l m = (l.0, leads_more more bs ν h μ g κ k l.1 m)

-- a path with further actions
abbrev pub more : Path → List Action → Path
more p bs = record p { actions = p.actions ++ bs }

module _ (w : World) (c : FunctionSite) where
  pub starts_more : (p : Path) (bs : List Action) (ν : Values) (h : Memory) → StartHolds w c p ν h → StartHolds w c (more p bs) ν h
  starts_more p bs ν h s = record { holds = s.holds; entry = s.entry }

  -- a longer path that is sure has a sure beginning
  pub sure_front : (p : Path) (bs : List Action) → IsSure w c (more p bs) → IsSure w c p
  sure_front p bs sure ν h s = after_more w p.actions _ _ (λ μ g q. tt) ν h (after_split w p.actions bs _ ν h (sure ν h (starts_more p bs ν h s)))

  -- and its further actions don't fail where it leads
  pub sure_back : (p : Path) (bs : List Action) → IsSure w c (more p bs) → (ν : Values) (h : Memory) (μ : Values) (g : Memory) → StartHolds w c p ν h → Leads w.labels p.actions ν h μ g → After w.labels bs (λ κ k. Unit {0}) μ g
  sure_back p bs sure ν h μ g s l = after_leads w p.actions _ ν h μ g (after_split w p.actions bs _ ν h (sure ν h (starts_more p bs ν h s))) l
