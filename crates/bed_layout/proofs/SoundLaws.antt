-- Where functions keep their specifications and are laid out, the code is sound.
use Rattle.std.proofs.Common.{sym, subst}
use Rattle.bed_sat.specs.Sound.{world_of}
use Rattle.bed_layout.specs.Functions.{places_in}
use Rattle.bed_layout.specs.Keeping.{KeepsFunction}
use Rattle.bed_layout.proofs.EntryLaws.{bodies_keep}
use Rattle.bed_layout.specs.Laws.{KeptIsSoundFromAll, KeptIsSound, WrittenIsSoundFromAll}
use Rattle.bed_layout.proofs.PlacementLemmas.{Fun, site, places, blocks, heads, entry, fun_at, layout}
use Rattle.bed_layout.proofs.StartLemmas.{start_sound}

pub sound_from_all : KeptIsSoundFromAll
sound_from_all p fs P keep = record {
  fine = λ X out f ν s F started start states run.
      let k = fun_at p X fs P f start.listed in
      start_sound p X out f ν s F start (Fun p X fs P) (site p X fs P) (places p X fs P) (blocks p X fs P) (heads p X fs P) (entry p X fs P)
      (layout p X fs P out f ν s F start) k.0 k.1 k.2 (λ g. keep X out g.function g.is) states run;
}

pub sound : KeptIsSound
sound p fs P keep = record { fine = λ X out f ν s F started start states run. (sound_from_all p fs P keep).fine X out f ν s F tt start states run }

pub written_from_all : WrittenIsSoundFromAll
written_from_all p fs P written = sound_from_all p fs P (λ X out f is.
    let r = written f is in
    subst (λ bs. KeepsFunction (world_of p X) f.site (places_in f) bs f.heads f.entry) (sym r.blocks)
    (bodies_keep (world_of p X) f.site r.further (places_in f) r.inner f.heads f.entry r.end r.next r.body r.scoped r.labels r.spans (r.keeps X out) r.ends (r.hold X out)))
