-- A tree written anew word by word under an instance is the tree under that instance.
use Rattle.std.proofs.Common.{◌≡◌, List, [], ◌∷◌, map, refl, ap, ap₂}
use Rattle.bed_lang.specs.declared.logic.Arg.{Arg}
use Rattle.bed_lang.specs.declared.logic.Arg.TheVariants as arg
use Rattle.bed_lang.specs.declared.logic.Pure.{Pure}
use Rattle.bed_lang.specs.declared.logic.Pure.TheVariants as pure
use Rattle.bed_lang.specs.declared.logic.Atom.{Atom}
use Rattle.bed_lang.specs.declared.logic.Atom.TheVariants as atom
use Rattle.bed_lang.specs.Instances.{Instance, word_with, seq_with, arg_with, args_with, pure_with, atom_with}
use Rattle.bed_forms.specs.Rewritten.{arg_by, fact_by, atom_by}

pub fact_read : (σ : Instance) (p : Pure) → fact_by (word_with σ) (seq_with σ) p ≡ pure_with σ p
fact_read σ (pure.Equal a b) = refl
fact_read σ (pure.Unequal a b) = refl
fact_read σ (pure.Less a b) = refl
fact_read σ (pure.AtMost a b) = refl
fact_read σ (pure.Same s t) = refl
fact_read σ (pure.Member a s) = refl
fact_read σ (pure.NonMember a s) = refl
fact_read σ (pure.Code a name) = refl

arg_read : (σ : Instance) (a : Arg) → arg_by (word_with σ) (seq_with σ) a ≡ arg_with σ a
arg_read σ (arg.Word at a) = refl
arg_read σ (arg.Seq at s) = refl
arg_read σ (arg.Bare name) = refl

args_read : (σ : Instance) (args : List Arg) → map (arg_by (word_with σ) (seq_with σ)) args ≡ args_with σ args
args_read σ [] = refl
args_read σ (a ∷ args) = ap₂ (λ b bs. b ∷ bs) (arg_read σ a) (args_read σ args)

pub atom_read : (σ : Instance) (x : Atom) → atom_by (word_with σ) (seq_with σ) x ≡ atom_with σ x
atom_read σ (atom.Cell a v) = refl
atom_read σ (atom.Byte a v) = refl
atom_read σ (atom.Block a n) = refl
atom_read σ (atom.Pred name args) = ap (λ (more : List Arg). atom.Pred name more) (args_read σ args)
