-- Tokens in a production: what one more of them leaves, and the leaves and weights that are made of them. Assumes nothing.
use mathlib.Core.Path.{◌≡◌, refl, sym, ap, ◌∙◌}
use mathlib.Core.List.{List}
use mathlib.Core.Bool.{false}
use Prim.Native.Nat.{ℕ, ◌+◌, ◌*◌, ◌-◌, ◌≤◌, ◌<◌}
use native.Mathlib.Omega.{arith}
use lib.Dec.{eqb}
use lib.Seq.{sets}
use Rattle.stream.specs.Words.{records, payload}
use Rattle.stream.specs.Formed.{Formed}
use Rattle.stream.specs.Reader.{expecting, take_next, expect_next, expect_name}
use Rattle.stream.specs.declared.reader.Cursor.{Cursor}
use Rattle.stream.specs.declared.reader.Token.{Token}
use Rattle.stream.specs.declared.reader.Refusal.{Refusal}
use Rattle.std.specs.Prelude.{Ok, Err}
use Rattle.operators.specs.Ranks.{Ranks}
use Rattle.tree.specs.Forest.{none, tree, words}
use Rattle.grammar.specs.Term.{Term, any, leaf, weigh, ◌⨾◌}
use Rattle.grammar.specs.Reading.{Out, fine, fail, Reader, Readers, Held, read}
use Rattle.grammar.specs.Productions.{word, named}
use Rattle.quarrel.proofs.Added.{noted_tree}
use Rattle.parser.specs.Contract.{Fine, Ordinary}
use Rattle.parser.proofs.Steps.{taken, Advanced, took_next, took_kind, took_name, word_is, any_is, name_is}
use Rattle.parser.proofs.Kit.{passed, both}

-- the payload of the token just taken
pub paid : {s : List ℕ} {c d : Cursor} {t : Token} → Advanced s c t d → t.payload ≡ payload s (d.place - 1)
paid {s} {c} {d} a = let p : c.place ≡ d.place - 1 = omega (arith, a.place) in ap (λ (z : Token). z.payload) a.token ∙ ap (payload s) p

module _ (s : List ℕ) (rank : Ranks) (limit : ℕ) (R : Readers) (h : Held) (A : Reader) (c : Cursor) where
  abbrev Reads : Term → Out
  Reads e = read s rank limit R h e A c.place c.mark

  -- any token, a name, a token of a kind: none is there
  pub any_fail : {e : Refusal} {d : Cursor} → take_next s c ≡ (Err e, d) → Reads any ≡ fail e
  any_fail x = any_is s rank limit R h A c ∙ ap taken x

  pub name_fail : {e : Refusal} {d : Cursor} → expect_name s c ≡ (Err e, d) → Reads named ≡ fail e
  name_fail x = name_is s rank limit R h A c ∙ ap taken x

  pub word_fail : {e : Refusal} {d : Cursor} (k : ℕ) → eqb k 59 ≡ false → expecting k ≡ k + 1 → expect_next s c k ≡ (Err e, d) → Reads (word k) ≡ fail e
  word_fail k r q x = word_is s rank limit R h A c k r q ∙ ap taken x

  -- it was taken: what that reads; what it leaves
  module _ {t : Token} {d : Cursor} where
    pub any_says : take_next s c ≡ (Ok t, d) → Reads any ≡ fine d.place d.mark none 0
    any_says x = any_is s rank limit R h A c ∙ ap taken x

    pub name_says : expect_name s c ≡ (Ok t, d) → Reads named ≡ fine d.place d.mark none 0
    name_says x = name_is s rank limit R h A c ∙ ap taken x

    module _ (n : List ℕ) (used more : ℕ) (f : Formed s) (l : used ≤ 4 * c.place + (4 + more)) where
      pub any_fine : take_next s c ≡ (Ok t, d) → Fine s c.note (c.place + 1) used more n n (Reads any) d used 0
      any_fine x = passed n used more f (took_next s c x) (any_says x) l

      pub name_fine : expect_name s c ≡ (Ok t, d) → Fine s c.note (c.place + 1) used more n n (Reads named) d used 0
      name_fine x = passed n used more f (took_name s c x) (name_says x) l

      pub word_fine : (k : ℕ) → eqb k 59 ≡ false → expecting k ≡ k + 1 → expect_next s c k ≡ (Ok t, d) → Fine s c.note (c.place + 1) used more n n (Reads (word k)) d used 0
      word_fine k r q x = passed n used more f (took_kind s c k x) (word_is s rank limit R h A c k r q ∙ ap taken x) l

  -- a leaf of the token just taken; its payload as a weight
  module _ (n : List ℕ) (used more : ℕ) {value : ℕ} (p : value ≡ payload s (c.place - 1)) (i : c.place < records s) where
    pub leaf_fine : {n' : List ℕ} {u : ℕ} (tag : ℕ) → Ordinary tag → u ≡ used + 1 → u ≤ 4 * c.place + more → n' ≡ sets n (used * 4) (words tag value 0 1) → Fine s c.note c.place used more n n' (Reads (leaf tag)) c u 0
    unfolding read
    leaf_fine tag y q r w =
        record {
          trees = tree tag (payload s (c.place - 1)) 0 (c.place - 1) none none;
          says = refl;
          grown = omega arith;
          laid = w ∙ ap (λ (z : ℕ). sets n (used * 4) (words tag z 0 1)) p;
          at = i;
          later = omega arith;
          room = r;
          noted = sym (noted_tree s tag (payload s (c.place - 1)) 0 (c.place - 1) none none c.note y);
        }

    pub weigh_fine : used ≤ 4 * c.place + more → Fine s c.note c.place used more n n (Reads weigh) c used value
    unfolding read
    weigh_fine r = record { trees = none; says = ap (fine c.place c.mark none) (sym p); grown = omega arith; laid = refl; at = i; later = omega arith; room = r; noted = refl }

-- a token, and a leaf of it
pub leaf_after : (s : List ℕ) (rank : Ranks) (limit : ℕ) (R : Readers) (h : Held) (A : Reader) (c : Cursor) {t : Token} {d : Cursor} (n : List ℕ) {n' : List ℕ} (used more tag : ℕ) → Ordinary tag → Formed s → used + 1 ≤ 4 * c.place + (4 + more)
    → n' ≡ sets n (used * 4) (words tag t.payload 0 1) → (x : Term) → read s rank limit R h x A c.place c.mark ≡ fine d.place d.mark none 0 → Advanced s c t d
    → Fine s c.note (c.place + 1) used more n n' (read s rank limit R h (x ⨾ leaf tag) A c.place c.mark) d (used + 1) 0
unfolding read
leaf_after s rank limit R h A c {d = d} n used more tag y f l w x e a =
    let b = passed n used more f a e (omega arith) in
    both {low' = d.place} (read s rank limit R h (leaf tag) A) b (leaf_fine s rank limit R h A d n used more (paid a) b.at tag y refl (omega (arith, a.place)) w) (omega arith)
