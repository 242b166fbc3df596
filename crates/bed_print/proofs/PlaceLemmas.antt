-- Two modules that are equal, places aside, keep the rules of names alike, and are resolved to modules that are equal, places aside.
use Rattle.std.proofs.Common.{◌≡◌, ◌∙◌, sym, ap, refl, List, [], ◌∷◌, map}
use Rattle.bed_lang.specs.declared.module.Module.{Module}
use Rattle.bed_names.specs.declared.error.NameError.{NameError}
use Rattle.bed_names.specs.Modules.{faults}
use Rattle.bed_names.specs.Resolved.{resolved}
use Rattle.bed_print.proofs.Places.{bare_module}
use Rattle.bed_print.proofs.FaultPlaces.{unplaced}
use Rattle.bed_print.proofs.ItemFaultPlaces.{faults_bare}
use Rattle.bed_print.proofs.ResolvedPlaces.{resolved_bare}

nothing_mapped : (fs : List NameError) → map unplaced fs ≡ [] → fs ≡ []
nothing_mapped [] e = refl
nothing_mapped (f ∷ fs) e = absurd (cc)

pub same_faults : (a b : Module) → bare_module a ≡ bare_module b → faults a ≡ [] → faults b ≡ []
same_faults a b e h =
    nothing_mapped (faults b) (sym (faults_bare b) ∙ ap faults (sym e) ∙ faults_bare a ∙ ap (map unplaced) h)

pub same_resolved : (a b : Module) → bare_module a ≡ bare_module b → bare_module (resolved a) ≡ bare_module (resolved b)
same_resolved a b e = sym (resolved_bare a) ∙ ap resolved e ∙ resolved_bare b
