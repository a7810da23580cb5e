-- What is noted on the way is what the machine notes, and of a derived tree it is the first `~=` that quarrels. Assumes nothing.
use mathlib.Core.Path.{◌≡◌, refl, sym, ap, ◌∙◌, subst}
use mathlib.Core.Bool.{Bool, true, false, ◌||◌, cond}
use mathlib.Core.List.{List}
use Prim.Native.Nat.{ℕ, ◌<◌}
use native.Mathlib.Omega.{arith}
use lib.Dec.{eqb}
use Rattle.std.specs.Prelude.{Option, None, Some}
use Rattle.stream.specs.Kinds.{NotEqual, EndOfStream}
use Rattle.stream.specs.Words.{records, kind}
use Rattle.stream.specs.declared.reader.Note.{Note}
use Rattle.stream.proofs.Words.{inside}
use Rattle.operators.specs.Ranks.{Ranks}
use Rattle.tree.specs.Forest.{Forest, tree}
use Rattle.grammar.specs.Grammar.{Ranked, Chunk}
use Rattle.grammar.specs.Member.{member}
use Rattle.grammar.proofs.Tests.{wrong, no_case}
use Rattle.grammar.proofs.Same.{to_terms}
use Rattle.quarrel.specs.Chains.{Op, op, expression, unary, tail}
use Rattle.quarrel.specs.Rule.{firsts, seconds}
use Rattle.quarrel.specs.Notes.{Names, note, earlier, hears, fresh, resumed, noted, held}
use Rattle.quarrel.proofs.Classes.{Role, cut, compare, unequal, bits, sum, rest, role, class}
use Rattle.quarrel.proofs.Classes as C
use Rattle.quarrel.proofs.Words.{cutting, leading, following, differing, cut_words, first_words, second_words, unequal_words}
use Rattle.quarrel.proofs.Machine.{start, earlier_none, turn, step}
use Rattle.quarrel.proofs.Noted as M
use Rattle.quarrel.proofs.Fit.{apart, Fit, Right, Fits, ends, tailed, signed, atom, right, nothing, whole, part}
use Rattle.quarrel.proofs.Parts.{apart_tags}
use Rattle.quarrel.proofs.Marks.{fits}
use Rattle.quarrel.proofs.Added.{noted_apart}

-- what is heard, by the four tests and by the operator's role
abbrev told : (cuts differs leads follows : Bool) → Note → ℕ → Note
told a b c d n p =
    elim a [
      | true ↦ note false None n.found
      | false ↦ elim b [
        | true ↦ note n.heard (Some p) (elim n.heard [ true ↦ earlier n.found (Some p) | false ↦ n.found ])
        | false ↦ elim c [
          | true ↦ note true None (elim d [ true ↦ earlier n.found n.waits | false ↦ n.found ])
          | false ↦ elim d [ true ↦ note n.heard None (earlier n.found n.waits) | false ↦ n ]
        ]
      ]
    ]

abbrev heard : Role → Note → ℕ → Note
heard k n p = told (cutting k) (differing k) (leading k) (following k) n p

alone : (a : Bool) → a ≡ a || false
alone true = refl
alone false = refl

hears_role : (n : Note) (k p : ℕ) → hears n k p ≡ heard (role (class k)) n p
unfolding hears
hears_role n k p =
    let r = role (class k) in
    let e : eqb k NotEqual ≡ differing r = alone (eqb k NotEqual) ∙ unequal_words k in
    ap (λ x. told x (eqb k NotEqual) (member k firsts) (member k seconds) n p) (cut_words k)
    ∙ ap (λ x. told (cutting r) x (member k firsts) (member k seconds) n p) e
    ∙ ap (λ x. told (cutting r) (differing r) x (member k seconds) n p) (first_words k)
    ∙ ap (λ x. told (cutting r) (differing r) (leading r) x n p) (second_words k)

heard_turn : (k : Role) (i : ℕ) (n : Note) → heard k n i ≡ turn k i n
heard_turn cut i n = refl
heard_turn compare i n = refl
heard_turn unequal i n = ap (note n.heard (Some i)) (go n.heard)
  where
    go : (b : Bool) → elim b [ true ↦ earlier n.found (Some i) | false ↦ n.found ] ≡ earlier n.found (cond b (Some i) None)
    go true = refl
    go false = sym (earlier_none n.found)
heard_turn bits i n = refl
heard_turn sum i n = refl
heard_turn rest i n = refl

-- to hear an operator is one step of the machine
hears_step : (n : Note) (o : Op) → hears n o.sort o.place ≡ step n o
hears_step n o = hears_role n o.sort o.place ∙ heard_turn (C.part o) o.place n

module _ (s : List ℕ) (tag v l p : ℕ) (k r : Forest) (h : apart tag ≡ true) where
  machine_apart : (n : Note) → M.noted s (tree tag v l p k r) n ≡ M.noted s r (M.finding n (M.nested s k n.found))
  machine_apart n = let e = apart_tags tag h in no_case (tail tag) _ _ e.1 ∙ no_case (unary tag) _ _ e.2

  nested_apart : (q : Option ℕ) → M.nested s (tree tag v l p k r) q ≡ M.nested s r (M.nested s k q)
  nested_apart q = no_case (expression tag) _ _ (apart_tags tag h).0

-- a tail's operator stands at a token of the stream
pub real_operator : (s : List ℕ) (rank : Ranks) → Ranked rank → (p : ℕ) {l : ℕ} → l < rank.left (kind s p) → p < records s
real_operator s rank r p {l} a = inside s p (λ e. wrong (r EndOfStream (subst (λ k. 0 < rank.left k) e (omega arith))))

module _ (s : List ℕ) (rank : Ranks) where
  mutual
    -- through the parts of an expression, what is noted is what the machine notes
    same_parts : {l : ℕ} {t : Forest} {os : List Op} → Fit s rank l t os → (n : Note) → noted s t n ≡ M.noted s t n
    same_parts (ends h) n = refl
    same_parts (tailed {p = p} {k = k} {r = r} a x y) n =
        let m = step n (op s p) in
        ap (λ n. noted s r (held s k n)) (hears_step n (op s p)) ∙ ap (noted s r) (same_held x m) ∙ same_parts y (M.held s k m)
    same_parts (signed {k = k} {r = r} x y) n = ap (noted s r) (same_held x n) ∙ same_parts y (M.held s k n)
    same_parts (atom {tag = tag} {v = v} {n = l} {p = p} {k = k} {r = r} h x y) n =
        noted_apart s tag v l p k r h n ∙ ap (noted s r) (same_around x n)
        ∙ same_parts y (M.finding n (M.nested s k n.found)) ∙ sym (machine_apart s tag v l p k r h n)

    same_held : {l : ℕ} {t : Forest} {os : List Op} → Right s rank l t os → (n : Note) → held s t n ≡ M.held s t n
    same_held (right x) n = same_parts x n

    -- through trees around expressions only what is found changes
    same_around : {t : Forest} → Fits s rank t → (n : Note) → noted s t n ≡ M.finding n (M.nested s t n.found)
    same_around nothing n = refl
    same_around (whole {k = k} {r = r} x y) n =
        ap (λ m. noted s r (resumed n m)) (same_parts x (fresh n)) ∙ same_around y (resumed n (M.noted s k (fresh n)))
    same_around (part {tag = tag} {v = v} {n = l} {p = p} {k = k} {r = r} h x y) n =
        noted_apart s tag v l p k r h n ∙ ap (noted s r) (same_around x n)
        ∙ same_around y (M.finding n (M.nested s k n.found)) ∙ ap (M.finding n) (sym (nested_apart s tag v l p k r h n.found))

-- what is found
found_told : (s : List ℕ) (t : Forest) (q : Option ℕ) → M.nested s t None ≡ q → Names s t q
found_told s t None e = (M.found_none s t).0 e
found_told s t (Some i) e = (M.found_some s t i).0 e

-- and so of a derived tree
pub first_noted : (s : List ℕ) (rank : Ranks) (g : ℕ) {t : Forest} → Ranked rank → Chunk s rank g t → Names s t (noted s t (note false None None)).found
first_noted s rank g {t} r c =
    subst (Names s t) (sym (ap (λ n. n.found) (same_around s rank (fits s rank (to_terms s rank r c)) start))) (found_told s t (M.nested s t None) refl)
