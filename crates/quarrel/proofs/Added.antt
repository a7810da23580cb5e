-- What trees add to a note: one after the other, a record over its children, and trees that have to do with no chain around them. Assumes nothing.
use mathlib.Core.Path.{◌≡◌, refl, sym, ap, ◌∙◌}
use mathlib.Core.Bool.{true, false}
use mathlib.Core.List.{List}
use Prim.Native.Nat.{ℕ}
use Rattle.stream.specs.declared.reader.Note.{Note}
use Rattle.operators.specs.Ranks.{Ranks}
use Rattle.tree.specs.Forest.{Forest, none, tree, join}
use Rattle.grammar.proofs.Tests.{no_case}
use Rattle.quarrel.specs.Chains.{expression, unary, tail}
use Rattle.quarrel.specs.Notes.{noted, fresh, resumed}
use Rattle.quarrel.proofs.Fit.{apart, Fits, nothing, whole, part}
use Rattle.quarrel.proofs.Parts.{apart_tags}

module _ (s : List ℕ) where
  pub noted_join : (t u : Forest) (q : Note) → noted s (join t u) q ≡ noted s u (noted s t q)
  noted_join none u q = refl
  noted_join (tree tag v l i k r) u q = noted_join r u _

  -- a record that is neither an expression's, nor a tail's, nor a unary operator's
  pub noted_tree : (tag v l i : ℕ) (k r : Forest) (q : Note) → (expression tag ≡ false) × (tail tag ≡ false) × (unary tag ≡ false) → noted s (tree tag v l i k r) q ≡ noted s r (noted s k q)
  noted_tree tag v l i k r q e = ap (noted s r) (no_case (expression tag) _ _ e.0 ∙ no_case (tail tag) _ _ e.1 ∙ no_case (unary tag) _ _ e.2)

  pub noted_apart : (tag v l i : ℕ) (k r : Forest) → apart tag ≡ true → (q : Note) → noted s (tree tag v l i k r) q ≡ noted s r (noted s k q)
  noted_apart tag v l i k r h q = noted_tree tag v l i k r q (apart_tags tag h)

  -- from the note of a chain around them, they add what they add from a fresh one
  abbrev pub Quiet : Forest → Type 0
  Quiet t = (q : Note) → noted s t q ≡ resumed q (noted s t (fresh q))

  quiet_join : (t u : Forest) → Quiet t → Quiet u → Quiet (join t u)
  quiet_join t u x y q =
      let f = noted s t (fresh q) in
      noted_join t u q ∙ ap (noted s u) (x q) ∙ y (resumed q f) ∙ sym (ap (resumed q) (y f)) ∙ sym (ap (resumed q) (noted_join t u (fresh q)))

  pub quiet_fits : (rank : Ranks) {t : Forest} → Fits s rank t → Quiet t
  quiet_fits rank nothing = λ q. refl
  quiet_fits rank (whole {v = v} {n = l} {p = i} {k = k} {r = r} x y) = quiet_join (tree 17 v l i k none) r (λ q. refl) (quiet_fits rank y)
  quiet_fits rank (part {tag = tag} {v = v} {n = l} {p = i} {k = k} {r = r} h x y) =
      let e = noted_apart tag v l i k none h in
      quiet_join (tree tag v l i k none) r (λ q. e q ∙ quiet_fits rank x q ∙ ap (resumed q) (sym (e (fresh q)))) (quiet_fits rank y)
