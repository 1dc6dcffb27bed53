-- The findings of a text, one after another, as C sees them.
use Rattle.std.proofs.Common.{◌≡◌, ◌∙◌, ◌<◌, ◌≤◌, ◌+◌, ◌++◌, ◌∷◌, [], ℕ, List, All, length, take, get_or, ap, sym, subst}
use Rattle.std.specs.List.{AllZip}
use Rattle.std.proofs.lemmas.List.{take_more}
use Rattle.std.proofs.lemmas.List.Elements.{All-cons, All-head, All-nil, All-tail}
use Rattle.std.proofs.lemmas.Slice.Zip.{all_zipped_more}
use Rattle.rb_lint.specs.Warnings.{AreInOrder, AreWithin, HasNoError, IsCompiled, line_count}
use Rattle.rb_lint.specs.declared.finding.Finding.{Finding as Found}
use Rattle.rb_lint.specs.declared.finding.Severity.TheVariants.{Warning}
use Rattle.resb.specs.Lint.{AreFindings, HasTexts, Shows}
use Rattle.resb.specs.declared.lint.Finding.{Finding}

pub shows_more : (gs : List Found) (fs new : List Finding) (i : ℕ) (g : Found) (f : Finding) → i < length gs → g ≡ get_or gs i g
    → new ≡ fs ++ f ∷ [] → AllZip Shows (take i gs) fs → Shows g f → AllZip Shows (take (i + 1) gs) new
shows_more gs fs new i g f inside is e so one =
    let more : take (i + 1) gs ≡ take i gs ++ g ∷ [] = take_more gs i g inside ∙ ap (λ (x : Found). take i gs ++ x ∷ []) (sym is) in
    rw (more, e) (all_zipped_more Shows (take i gs) fs g f so one)

-- what holds of the line of each finding
all_lines : (P : ℕ → Type 0) (gs : List Found) (fs : List Finding) → AllZip Shows gs fs → All (λ g. P g.line) gs → All (λ f. P f.line) fs
all_lines P [] [] z h = All-nil (λ f. P f.line)
all_lines P [] (f ∷ fs) z h = absurd z
all_lines P (g ∷ gs) [] z h = absurd z
all_lines P (g ∷ gs) (f ∷ fs) z h =
    All-cons (λ f. P f.line) f fs (subst P (sym z.0.line) (All-head (λ g. P g.line) g gs h))
    (all_lines P gs fs z.1 (All-tail (λ g. P g.line) g gs h))

in_order : (gs : List Found) (fs : List Finding) → AllZip Shows gs fs → AreInOrder (λ g. g.line) gs → AreInOrder (λ f. f.line) fs
in_order [] [] z o = tt
in_order [] (f ∷ fs) z o = absurd z
in_order (g ∷ gs) [] z o = absurd z
in_order (g ∷ gs) (f ∷ fs) z o =
    (subst (λ (n : ℕ). All (λ e. n ≤ e.line) fs) (sym z.0.line) (all_lines (λ n. g.line ≤ n) gs fs z.1 o.0), in_order gs fs z.1 o.1)

all_texts : (gs : List Found) (fs : List Finding) → AllZip Shows gs fs → All HasTexts fs
all_texts [] [] z = All-nil HasTexts
all_texts [] (f ∷ fs) z = absurd z
all_texts (g ∷ gs) [] z = absurd z
all_texts (g ∷ gs) (f ∷ fs) z = All-cons HasTexts f fs z.0.texts (all_texts gs fs z.1)

no_error : (gs : List Found) (fs : List Finding) → AllZip Shows gs fs → All (λ f. f.error ≡ 0) fs → All (λ g. g.severity ≡ Warning) gs
no_error [] [] z h = All-nil (λ g. g.severity ≡ Warning)
no_error [] (f ∷ fs) z h = absurd z
no_error (g ∷ gs) [] z h = absurd z
no_error (g ∷ gs) (f ∷ fs) z h =
    All-cons (λ g. g.severity ≡ Warning) g gs (z.0.error (All-head (λ f. f.error ≡ 0) f fs h))
    (no_error gs fs z.1 (All-tail (λ f. f.error ≡ 0) f fs h))

pub are_findings : (text : List ℕ) (gs : List Found) (fs : List Finding) → AllZip Shows gs fs → AreInOrder (λ g. g.line) gs
    → AreWithin (line_count text) (λ g. g.line) gs → (HasNoError gs → IsCompiled text) → AreFindings text fs
are_findings text gs fs z order within error = record {
  order = in_order gs fs z order;
  within = all_lines (λ n. (1 ≤ n) × (n ≤ line_count text)) gs fs z within;
  texts = all_texts gs fs z;
  error = λ h. error (no_error gs fs z h);
}
