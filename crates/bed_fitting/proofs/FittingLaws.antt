-- Modules that the linker accepts fit together.
use Rattle.std.proofs.Common.{◌≡◌, ℕ, ◌+◌, ◌<◌, ◌≤◌, true, false, Option, Some, None, List, [], map, find, bytes_eq, inl, inr, ◌⊎◌, Contains, refl, sym, ◌∙◌, ap, subst, arith}
use Rattle.std.proofs.lemmas.Bool.{cases_Bool}
use Rattle.std.proofs.lemmas.List.Elements.{Contains-append_left, Contains-append_right}
use Rattle.bed_machine.proofs.WordLaws.{some_same}
use Rattle.bed_lang.specs.Numbers.{wrap}
use Rattle.bed_lang.specs.declared.word.Name.{Name}
use Rattle.bed_lang.specs.declared.module.Signature.{Signature}
use Rattle.bed_lang.specs.declared.module.Import.{Import}
use Rattle.bed_lang.specs.declared.module.Function.{Function}
use Rattle.bed_lang.specs.declared.module.Module.{Module}
use Rattle.bed_lang.specs.declared.condition.Decls.{Decls}
use Rattle.bed_lang.specs.Declarations.{all_signatures, all_imports, all_declarations}
use Rattle.bed_lang.specs.Lookups.{first_signature, second_of}
use Rattle.bed_table.specs.Layout.{all_defined, label_address, outside_imports, exports, imported, total_size, address_of, import_label}
use Rattle.bed_table.proofs.SizeLaws.{code_is_sized}
use Rattle.bed_sat.specs.Declarations.{IsConsistent}
use Rattle.bed_sat.specs.Linking.{linked}
use Rattle.bed_sat.specs.Runs.{Outside}
use Rattle.bed_sat.specs.Sound.{Linked, world_of, codes_of, IsOutsideOf}
use Rattle.bed_sat.specs.Valid.{LabelsFit}
use Rattle.bed_sat.proofs.FrameLaws.{bytes_eq_is, bytes_eq_same}
use Rattle.bed_sat.proofs.ExtensionLaws.{found, finds, label_among, module_extends}
use Rattle.bed_link.specs.Linkable.{IsLinkable, outside}
use Rattle.bed_link.specs.Laws.{FunctionsStand, CodeFits, ImportsAreGiven, ImportsLieOutside}
use Rattle.bed_whole.specs.Programs.{IsRegular, AreFitting}
use Rattle.bed_fitting.specs.Fitting.{AreNamed, LinkableFit}
use Rattle.bed_fitting.proofs.ConsistentLemmas.{map_in, map_back, IsLabel, of_import, of_function, label_part, part_back, consistent}
use Rattle.bed_fitting.proofs.StandingLemmas.{defined_listed, defined_back, placed_has, placed_within, codes_at, codes_out, exports_has, imported_has, import_listed, import_back, outside_has, import_stands, given_small}

small : (n : ℕ) → n < 4294967296 → wrap n ≡ n
small n lt = omega arith

second : (o : Option (Name × Name)) (x : Name) → second_of o ≡ Some x → (l : Name × Name) × (o ≡ Some l) × (l.1 ≡ x)
second None x e = absurd cc
second (Some l) x e = (l, refl, some_same e)

module _ (stand : FunctionsStand) (fits : CodeFits) (are_given : ImportsAreGiven) (lie : ImportsLieOutside)
    (ms : List Module) (given : List (Name × ℕ)) (base : ℕ) (named : AreNamed ms) (linkable : IsLinkable ms given base) (words : (g : Name × ℕ) → Contains given g → g.1 < 4294967296) where
  abbrev p : Linked
  p = linked ms base given

  abbrev all : Decls
  all = all_declarations ms

  one : IsConsistent all
  one = consistent ms given base linkable named.own

  ends : base + total_size (all_defined ms) ≤ 4294967296
  ends = (fits ms given base linkable).1

  -- two labels of one name have signatures of one name
  same_signatures : (k l : Name × Name) → Contains all.labels k → Contains all.labels l → k.0.bytes ≡ l.0.bytes → k.1.bytes ≡ l.1.bytes
  same_signatures k l is it names = bytes_eq_is k.1.bytes l.1.bytes (one.labels k l is it (subst (λ n. bytes_eq k.0.bytes n ≡ true) names (bytes_eq_same k.0.bytes)))

  module _ (X : Outside) (out : IsOutsideOf p X) where
    -- at the address of a function's name
    at_function : (m : Module) (g : Function) → Contains ms m → Contains m.functions g → (world_of p X).codes (wrap (p.labels g.name.bytes)) ≡ Some g.signature.bytes
    at_function m g listed has =
        let r : IsRegular m g = named.regular m listed g has in
        let S = (module_extends ms m listed one).signatures g.signature.bytes r.signature r.declared in
        let there = found (λ (T : Signature). bytes_eq T.name.bytes g.signature.bytes) (all_signatures ms) S.0 S.1 in
        let q = placed_has base (all_defined ms) _ (defined_listed ms m g listed has) in
        let f : q.0.defined.function ≡ g = ap (λ d. d.function) q.2 in
        let within = placed_within base (all_defined ms) q.0 q.1 in
        let stands : p.labels g.name.bytes ≡ q.0.address = subst (λ (x : Function). label_address ms base given x.name.bytes ≡ q.0.address) f (stand ms given base linkable q.0 q.1) in
        let word : wrap (p.labels g.name.bytes) ≡ q.0.address = ap wrap stands ∙ small q.0.address (omega (arith, within.1, ends)) in
        ap (codes_of p.functions X) word
        ∙ codes_at (all_signatures ms) X base (all_defined ms) q.0 S.0 q.1 (subst (λ (x : Function). first_signature (all_signatures ms) x.signature.bytes ≡ Some S.0) (sym f) S.1)
        ∙ ap Some (bytes_eq_is S.0.name.bytes g.signature.bytes there.1)

    own_label : (m : Module) (g : Function) → Contains ms m → Contains m.functions g → Contains all.labels (g.name, g.signature)
    own_label m g listed has =
        label_among ms m (g.name, g.signature) listed
        (Contains-append_right (map (λ (i : Import). (i.name, i.signature)) m.imports) (map (λ (h : Function). (h.name, h.signature)) m.functions) (g.name, g.signature) (map_in (λ (h : Function). (h.name, h.signature)) m.functions g has))

    import_label_listed : (m : Module) (j : Import) → Contains ms m → Contains m.imports j → Contains all.labels (j.name, j.signature)
    import_label_listed m j listed has =
        label_among ms m (j.name, j.signature) listed
        (Contains-append_left (map (λ (i : Import). (i.name, i.signature)) m.imports) (map (λ (h : Function). (h.name, h.signature)) m.functions) (j.name, j.signature) (map_in (λ (i : Import). (i.name, i.signature)) m.imports j has))

    -- at the address of the name of an import that the outside has
    at_outside : (y : Name) (j : Import) → Contains (outside_imports ms) y → find (λ (i : Import). bytes_eq i.name.bytes y.bytes) (all_imports ms) ≡ Some j
        → (world_of p X).codes (wrap (p.labels y.bytes)) ≡ Some j.signature.bytes
    at_outside y j listed first =
        let a : ℕ = p.labels y.bytes in
        let here : Contains (outside ms given) (y, a) = subst (λ l. Contains l (y, a)) (are_given ms given base linkable) (map_in (λ (x : Name). (x, label_address ms base given x.bytes)) (outside_imports ms) y listed) in
        let apart = lie ms given base linkable (y, a) here in
        let back = map_back (λ (x : Name). (x, address_of (map import_label given) x.bytes)) (outside_imports ms) (y, a) here in
        let lt : a < 4294967296 = subst (λ n. n < 4294967296) (ap (λ (z : Name × ℕ). z.1) back.2) (given_small given words back.0.bytes) in
        ap (codes_of p.functions X) (small a lt) ∙ codes_out (all_signatures ms) X base (all_defined ms) a apart
        ∙ out.imports (record { address = a; signature = j.signature.bytes }) (import_stands (label_address ms base given) (all_imports ms) (outside_imports ms) y j listed first)

    at_import : (m : Module) (i : Import) → Contains ms m → Contains m.imports i → (world_of p X).codes (wrap (p.labels i.name.bytes)) ≡ Some i.signature.bytes
    at_import m i listed has = by (cases_Bool (exports (all_defined ms) i.name.bytes))
      where
        by : (exports (all_defined ms) i.name.bytes ≡ true) ⊎ (exports (all_defined ms) i.name.bytes ≡ false) → (world_of p X).codes (wrap (p.labels i.name.bytes)) ≡ Some i.signature.bytes
        by (inl named_there) =
            let d = exports_has (all_defined ms) i.name.bytes named_there in
            let m2 = defined_back ms d.0 d.1 in
            let same = same_signatures (d.0.function.name, d.0.function.signature) (i.name, i.signature) (own_label m2.0 d.0.function m2.1 m2.2) (import_label_listed m i listed has) d.2 in
            subst (λ n. (world_of p X).codes (wrap (p.labels n)) ≡ Some i.signature.bytes) d.2 (at_function m2.0 d.0.function m2.1 m2.2 ∙ ap Some same)
        by (inr none) =
            let y = outside_has (all_defined ms) [] (imported ms) i.name (imported_has ms m i listed has) none in
            let j = finds (λ (k : Import). bytes_eq k.name.bytes y.0.bytes) (all_imports ms) i (import_listed ms m i listed has) (subst (λ n. bytes_eq i.name.bytes n ≡ true) (sym y.2) (bytes_eq_same i.name.bytes)) in
            let is = found (λ (k : Import). bytes_eq k.name.bytes y.0.bytes) (all_imports ms) j.0 j.1 in
            let m2 = import_back ms j.0 is.0 in
            let same = same_signatures (j.0.name, j.0.signature) (i.name, i.signature) (import_label_listed m2.0 j.0 m2.1 m2.2) (import_label_listed m i listed has) (bytes_eq_is j.0.name.bytes y.0.bytes is.1 ∙ y.2) in
            subst (λ n. (world_of p X).codes (wrap (p.labels n)) ≡ Some i.signature.bytes) y.2 (at_outside y.0 j.0 y.1 j.1 ∙ ap Some same)

    by_label : (l : Name × Name) → IsLabel 0 ms l → (world_of p X).codes (wrap (p.labels l.0.bytes)) ≡ Some l.1.bytes
    by_label l (of_import i n is a b) =
        let m = part_back (λ x. x.imports) 0 ms i n is in
        subst (λ (x : Name). (world_of p X).codes (wrap (p.labels x.bytes)) ≡ Some l.1.bytes) a (at_import m.0 i m.1 m.2 ∙ ap (λ (x : Name). Some x.bytes) b)
    by_label l (of_function f n is a b) =
        let m = part_back (λ x. x.functions) 0 ms f n is in
        subst (λ (x : Name). (world_of p X).codes (wrap (p.labels x.bytes)) ≡ Some l.1.bytes) a (at_function m.0 f m.1 m.2 ∙ ap (λ (x : Name). Some x.bytes) b)

    labels_fit : LabelsFit (world_of p X)
    labels_fit f name e =
        let l = second (find (λ (k : Name × Name). bytes_eq k.0.bytes f) all.labels) name e in
        let here = found (λ (k : Name × Name). bytes_eq k.0.bytes f) all.labels l.0 l.1 in
        subst (λ n. (world_of p X).codes (wrap (p.labels n)) ≡ Some name.bytes) (bytes_eq_is l.0.0.bytes f here.1) (by_label l.0 (label_part 0 ms l.0 here.0) ∙ ap (λ (x : Name). Some x.bytes) l.2)

  fitting : AreFitting ms base given
  fitting = record {
    regular = named.regular;
    known = named.known;
    consistent = one;
    end = subst (λ n. base + n ≤ 4294967296) (sym (code_is_sized ms base given)) (fits ms given base linkable).1;
    labels = labels_fit;
  }

pub linkable_fit : FunctionsStand → CodeFits → ImportsAreGiven → ImportsLieOutside → LinkableFit
linkable_fit stand fits are_given lie ms given base named linkable words = fitting stand fits are_given lie ms given base named linkable words
