-- The bytes of a file are those of one image, or have one fault.
use Rattle.std.proofs.Common.{◌≡◌, ◌⊎◌, inl, inr, ℕ, List, Result, Ok, Err, sym, ◌∙◌, ap, refl}
use Rattle.bed_image.specs.declared.image.Image.{Image}
use Rattle.bed_image.specs.Format.{IsFileOf}
use Rattle.bed_image.specs.Faults.{IsFault}
use Rattle.bed_image.specs.Reading.{image_of}
use Rattle.bed_image.specs.Laws.{OneImage, HasNoFault, OneFault, HasAnswer, AreBytes}
use Rattle.bed_image.proofs.ImageLemmas.{image_again, image_takes}
use Rattle.bed_image.proofs.FaultLemmas.{fault_told, fault_found}

-- what reading an image's file gives
told : (i : Image) (bytes : List ℕ) → IsFileOf i bytes → image_of bytes ≡ Ok i
told i bytes h = ap image_of h.1 ∙ image_again i h.0

pub one_image : (bytes : List ℕ) → OneImage bytes
one_image bytes i j a b = let same : ◌≡◌ {A = Result Image ℕ} (Ok i) (Ok j) = sym (told i bytes a) ∙ told j bytes b in cc

pub no_fault : (bytes : List ℕ) → HasNoFault bytes
no_fault bytes i at a b = let no : ◌≡◌ {A = Result Image ℕ} (Ok i) (Err at) = sym (told i bytes a) ∙ fault_told bytes at b in absurd (cc)

pub one_fault : (bytes : List ℕ) → OneFault bytes
one_fault bytes a b h k = let same : ◌≡◌ {A = Result Image ℕ} (Err a) (Err b) = sym (fault_told bytes a h) ∙ fault_told bytes b k in cc

by_reading : (bytes : List ℕ) (r : Result Image ℕ) → image_of bytes ≡ r → AreBytes bytes → ((i : Image) × IsFileOf i bytes) ⊎ ((at : ℕ) × IsFault bytes at)
by_reading bytes (Ok i) is fits = inl (i, image_takes bytes i fits is)
by_reading bytes (Err at) is fits = inr (at, fault_found bytes at fits is)

pub an_answer : (bytes : List ℕ) → HasAnswer bytes
an_answer bytes fits = by_reading bytes (image_of bytes) refl fits
