-- Modules that fit together and whose conditions are valid have sound code.
use Rattle.std.proofs.Common.{◌≡◌, ℕ, ◌<◌, Some, List, Contains, sym, ◌∙◌, ap, subst, arith}
use Rattle.bed_machine.specs.Memory.{Memory}
use Rattle.bed_lang.specs.declared.word.Name.{Name}
use Rattle.bed_lang.specs.declared.module.Signature.{Signature}
use Rattle.bed_lang.specs.declared.module.Module.{Module}
use Rattle.bed_lang.specs.declared.condition.Cond.{Cond}
use Rattle.bed_lang.specs.Declarations.{all_signatures}
use Rattle.bed_lang.specs.Lookups.{signature_named, function_signature}
use Rattle.bed_lang.specs.Values.{Values}
use Rattle.bed_table.specs.Layout.{placed_from, code_of}
use Rattle.bed_sat.specs.Assertions.{World}
use Rattle.bed_sat.specs.Conditions.{site_of, path_at_entry, body_part, function_conditions, conditions}
use Rattle.bed_sat.specs.ConditionLaws.{CodeIsSame}
use Rattle.bed_sat.specs.DeclarationLaws.{ValidAmongAll}
use Rattle.bed_sat.specs.Linking.{linked, functions_at, loops_at}
use Rattle.bed_sat.specs.Runs.{Outside}
use Rattle.bed_sat.specs.Sound.{FunctionAt, Linked, world_of, IsOutsideOf}
use Rattle.bed_sat.specs.Valid.{GoalHolds, After, Starts, IsValid}
use Rattle.bed_sat.proofs.PathLaws.{paths_end}
use Rattle.bed_il.specs.declared.blocks.Inst.TheVariants.{LowerSp}
use Rattle.bed_il.specs.declared.blocks.Block.{Block}
use Rattle.bed_il.specs.Fit.{FitFunction, HasCode}
use Rattle.bed_il.specs.Places.{place_of}
use Rattle.bed_laws.specs.Activations.{FunctionSite}
use Rattle.bed_laws.specs.Keeps.{LoopHead, CondHolds}
use Rattle.bed_laws.proofs.MacroLaws.{just_after}
use Rattle.bed_bodies.specs.Bodies.{body_built}
use Rattle.bed_bodies.specs.Functions.{end_of, function_heads}
use Rattle.bed_bodies.proofs.BodyLaws.{body_laws}
use Rattle.bed_layout.specs.Functions.{BlockFunction, places_in}
use Rattle.bed_layout.specs.Keeping.{KeepsFunction}
use Rattle.bed_layout.specs.Placed.{IsPlaced}
use Rattle.bed_layout.specs.Laws.{AllKeep}
use Rattle.bed_layout.proofs.EntryLaws.{bodies_keep}
use Rattle.bed_layout.proofs.SoundLaws.{sound_from_all}
use Rattle.bed_whole.specs.Programs.{site_in, AreFitting, AreValid, ValidIsSound}
use Rattle.bed_whole.proofs.LowerLemmas.{lowers_by_words}
use Rattle.bed_whole.proofs.OwedLemmas.{named_at, body_names}
use Rattle.bed_whole.proofs.SameLemmas.{condition_same, function_same}
use Rattle.bed_whole.proofs.ReadyLemmas.{in_flat, Ready, ready_all, all_is, label_first, own, body, locals, blocks, block_function, functions_from, of_ready, functions_are, stops, met, laws, code_is, stand_is, loops_are}

module _ (same : CodeIsSame) (among : ValidAmongAll) (ms : List Module) (base : ℕ) (imports : List (Name × ℕ)) (fits : AreFitting ms base imports) (valid : AreValid ms) where
  abbrev p : Linked
  p = linked ms base imports

  abbrev R : Type 0
  R = Ready ms base imports fits

  abbrev rs : List R
  rs = ready_all ms base imports fits ms (λ m is. is)

  abbrev fs : List BlockFunction
  fs = functions_from ms base imports fits base rs

  -- ---- where they stand

  a_ready : (f : BlockFunction) → Contains fs f → (r : R) × (x : ℕ) × (block_function ms base imports fits x r ≡ f)
  a_ready f is = of_ready ms base imports fits base rs f is

  placed_fit : (f : BlockFunction) → Contains fs f → FitFunction f.blocks f.entry
  placed_fit f is =
      let q = a_ready f is in
      subst (λ (g : BlockFunction). FitFunction g.blocks g.entry) q.2 (laws ms base imports fits same q.0).fit

  placed_heads : (f : BlockFunction) → Contains fs f → (x : LoopHead) → Contains f.heads x → HasCode f.blocks x.label
  placed_heads f is =
      let q = a_ready f is in
      subst (λ (g : BlockFunction). (x : LoopHead) → Contains g.heads x → HasCode g.blocks x.label) q.2 (laws ms base imports fits same q.0).lays.code

  placed_words : (f : BlockFunction) → Contains fs f → (b : Block) → Contains f.blocks b → (n : ℕ) → Contains b.insts (LowerSp n) → n < 4294967296
  placed_words f is =
      let q = a_ready f is in
      subst (λ (g : BlockFunction). (b : Block) → Contains g.blocks b → (n : ℕ) → Contains b.insts (LowerSp n) → n < 4294967296) q.2
      (lowers_by_words (locals ms base imports fits q.0) (body ms base imports fits q.0))

  placed_declared : (h : FunctionAt) → Contains p.functions h → signature_named p.decls h.signature.name.bytes ≡ Some h.signature
  placed_declared h is =
      let q = functions_are ms base imports fits base rs h (subst (λ ds. Contains (functions_at (all_signatures ms) (placed_from base ds)) h) (all_is ms base imports fits ms (λ m i. i)) is) in
      let r = a_ready q.function q.listed in
      subst (λ (S : Signature). signature_named p.decls S.name.bytes ≡ Some S) (ap (λ (g : BlockFunction). g.site.signature) r.2 ∙ q.signature) r.0.named

  placed : IsPlaced p fs
  placed = record {
    bytes = ap (λ ds. code_of p.labels (placed_from base ds)) (all_is ms base imports fits ms (λ m is. is)) ∙ code_is ms base imports fits same p.labels base rs;
    stand = stand_is ms base imports fits same base rs;
    end = fits.end;
    fit = placed_fit;
    heads = placed_heads;
    words = placed_words;
    functions = λ h is. functions_are ms base imports fits base rs h (subst (λ ds. Contains (functions_at (all_signatures ms) (placed_from base ds)) h) (all_is ms base imports fits ms (λ m i. i)) is);
    loops = λ l is. loops_are ms base imports fits same base rs l (subst (λ ds. Contains (loops_at (all_signatures ms) (placed_from base ds)) l) (all_is ms base imports fits ms (λ m i. i)) is);
    declared = placed_declared;
  }

  -- ---- that they keep their specifications

  module _ (X : Outside) (out : IsOutsideOf p X) where
    abbrev w : World
    w = world_of p X

    condition_holds : (r : R) (d : Cond) → Contains ((body_part (site_of r.of r.function) (body ms base imports fits r)).owes (path_at_entry (Some r.regular.signature))) d
        → CondHolds w (site_in r.of r.function r.first) d
    condition_holds r d is =
        let here : Contains (function_conditions r.of r.function) d =
        subst (λ o. Contains ((body_part (site_of r.of r.function) (body ms base imports fits r)).owes (path_at_entry o)) d) (sym r.regular.declared) is in
        let listed : Contains (conditions r.of) d = in_flat (function_conditions r.of) r.of.functions r.function d r.has here in
        let all_valid : IsValid p.decls d = among ms r.of d r.listed fits.consistent (fits.known r.of r.listed) listed (valid r.of r.listed d listed) in
        let name : d.function ≡ r.function.name = named_at (site_of r.of r.function) _ (body_names (site_of r.of r.function) (body ms base imports fits r) (path_at_entry (Some r.regular.signature))) d is in
        subst (λ S. (ν : Values) (h : Memory) → Starts w S d ν h → After w.labels d.actions (GoalHolds w S d.goal) ν h)
        (ap (function_signature p.decls) name ∙ label_first ms base imports fits r)
        (all_valid.holds w.codes w.labels (fits.labels X out))

    kept : (r : R) (x : ℕ) → KeepsFunction w (site_in r.of r.function r.first) (place_of (blocks ms base imports fits r) x) (blocks ms base imports fits r) (function_heads (body ms base imports fits r)) 0
    kept r x =
        let c : FunctionSite = own ms base imports fits r in
        let b = body ms base imports fits r in
        let places : ℕ → ℕ = place_of (blocks ms base imports fits r) x in
        function_same w r.regular.signature r.first r.forth r.back (site_of r.of r.function) places (blocks ms base imports fits r) (function_heads b) 0
        (bodies_keep w c r.function.locals places ((body_built b).code (locals ms base imports fits r) 1 (end_of b)) (function_heads b) 0 (end_of b) (end_of b) b r.regular.scoped (omega arith)
        ((body_laws b).spans (locals ms base imports fits r) 1 (end_of b))
        ((body_laws b).keeps w c (met ms base imports fits same r) r.regular.scoped.distinct places 1 (end_of b) (just_after 1 (body_built b).count))
        (paths_end c.site b (stops ms base imports fits same r) (path_at_entry (Some r.regular.signature)))
        (λ d is. condition_same w r.first r.regular.signature r.back (site_of r.of r.function) d (condition_holds r d is)))

  keep : AllKeep p fs
  keep X out f is =
      let q = a_ready f is in
      subst (λ (g : BlockFunction). KeepsFunction (world_of p X) g.site (places_in g) g.blocks g.heads g.entry) q.2 (kept X out q.0 q.1)

pub valid_is_sound : CodeIsSame → ValidAmongAll → ValidIsSound
valid_is_sound same among ms base imports fits valid =
    sound_from_all (linked ms base imports) (fs same among ms base imports fits valid) (placed same among ms base imports fits valid) (keep same among ms base imports fits valid)
