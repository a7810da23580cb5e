-- The machine over whole trees finds the first `~=` that quarrels. Assumes nothing.
use mathlib.Core.Path.{◌≡◌, refl, sym, ap, ap₂, ◌∙◌}
use mathlib.Core.Bool.{Bool, true, false, ◌||◌}
use mathlib.Core.List.{List, [], ◌∷◌, ◌++◌}
use mathlib.Core.Logic.{◌↔◌, ◌⊎◌, inl, inr}
use Prim.Native.Nat.{ℕ}
use Rattle.std.specs.Prelude.{Option, Some, None}
use Rattle.stream.specs.declared.reader.Note.{Note}
use Rattle.tree.specs.Forest.{Forest, none, tree}
use Rattle.quarrel.specs.Chains.{Op, op, expression, unary, tail, operators, operand, chains, within, inner}
use Rattle.quarrel.specs.Rule.{In, here, there, Quarrelling, First}
use Rattle.quarrel.specs.Notes.{note, earlier}
use Rattle.quarrel.proofs.Machine.{start, earlier_none, earlier_assoc, step, run, run_append, adding, run_adding, run_found, Least, nowhere, least_alike, least_both, exactly_none, exactly_some, Placed, run_lowest}

-- what is found, changed
abbrev pub finding : Note → Option ℕ → Note
finding z m = note z.heard z.waits m

-- through the parts of an expression: a tail's operator is a step, and what a tail or a unary operator holds goes on with the chain;
-- chains within other records start afresh, and keep only what is found
abbrev mutual
  pub noted : List ℕ → Forest → Note → Note
  noted s none z = z
  noted s (tree tag value line place kids rest) z =
      elim (tail tag) [
        | true ↦ noted s rest (held s kids (step z (op s place)))
        | false ↦ elim (unary tag) [ true ↦ noted s rest (held s kids z) | false ↦ noted s rest (finding z (nested s kids z.found)) ]
      ]

  pub held : List ℕ → Forest → Note → Note
  held s none z = z
  held s (tree tag value line place kids rest) z = noted s kids z

  pub nested : List ℕ → Forest → Option ℕ → Option ℕ
  nested s none q = q
  nested s (tree tag value line place kids rest) q =
      elim (expression tag) [ true ↦ nested s rest (noted s kids (note false None q)).found | false ↦ nested s rest (nested s kids q) ]

-- the lowest place found in some chains
lows : List (List Op) → Option ℕ
lows [] = None
lows (c ∷ cs) = earlier (run start c).found (lows cs)

lows_append : (a b : List (List Op)) → lows (a ++ b) ≡ earlier (lows a) (lows b)
unfolding lows
lows_append [] b = refl
lows_append (c ∷ a) b = ap (earlier (run start c).found) (lows_append a b) ∙ sym (earlier_assoc (run start c).found (lows a) (lows b))

adding_none : (z : Note) → adding z None ≡ z
adding_none z = ap (note z.heard z.waits) (earlier_none z.found)

adding_twice : (z : Note) (m n : Option ℕ) → adding (adding z m) n ≡ adding z (earlier m n)
adding_twice z m n = ap (note z.heard z.waits) (earlier_assoc z.found m n)

-- a part of a chain with what lies within it, and then another
joined : (z : Note) (x y : List Op) (a b : List (List Op)) → adding (run (adding (run z x) (lows a)) y) (lows b) ≡ adding (run z (x ++ y)) (lows (a ++ b))
joined z x y a b =
    ap (λ w. adding w (lows b)) (run_adding (run z x) (lows a) y) ∙ adding_twice (run (run z x) y) (lows a) (lows b)
    ∙ ap₂ adding (sym (run_append z x y)) (sym (lows_append a b))

mutual
  unfolding lows

  noted_is : (s : List ℕ) (t : Forest) (z : Note) → noted s t z ≡ adding (run z (operators s t)) (lows (within s t))
  noted_is s none z = sym (adding_none z)
  noted_is s (tree tag value line place kids rest) z = go (tail tag) (unary tag) (λ z. noted_is s rest z) (λ z. held_is s kids z) (λ q. nested_is s kids q)
    where
      go : (a b : Bool) → ((z : Note) → noted s rest z ≡ adding (run z (operators s rest)) (lows (within s rest)))
          → ((z : Note) → held s kids z ≡ adding (run z (operand s kids)) (lows (inner s kids)))
          → ((q : Option ℕ) → nested s kids q ≡ earlier q (lows (chains s kids)))
          → elim a [
            | true ↦ noted s rest (held s kids (step z (op s place)))
            | false ↦ elim b [ true ↦ noted s rest (held s kids z) | false ↦ noted s rest (finding z (nested s kids z.found)) ]
          ]
          ≡ adding (run z (elim a [
            | true ↦ op s place ∷ operand s kids ++ operators s rest
            | false ↦ elim b [ true ↦ operand s kids ++ operators s rest | false ↦ operators s rest ]
          ])) (lows (elim (a || b) [ true ↦ inner s kids | false ↦ chains s kids ] ++ within s rest))
      go true b f g h = f (held s kids (step z (op s place))) ∙ ap (λ w. adding (run w (operators s rest)) (lows (within s rest))) (g (step z (op s place)))
          ∙ joined (step z (op s place)) (operand s kids) (operators s rest) (inner s kids) (within s rest)
      go false true f g h = f (held s kids z) ∙ ap (λ w. adding (run w (operators s rest)) (lows (within s rest))) (g z)
          ∙ joined z (operand s kids) (operators s rest) (inner s kids) (within s rest)
      go false false f g h = f (finding z (nested s kids z.found))
          ∙ ap (λ w. adding (run w (operators s rest)) (lows (within s rest))) (ap (finding z) (h z.found))
          ∙ joined z [] (operators s rest) (chains s kids) (within s rest)

  held_is : (s : List ℕ) (t : Forest) (z : Note) → held s t z ≡ adding (run z (operand s t)) (lows (inner s t))
  held_is s none z = sym (adding_none z)
  held_is s (tree tag value line place kids rest) z = noted_is s kids z

  nested_is : (s : List ℕ) (t : Forest) (q : Option ℕ) → nested s t q ≡ earlier q (lows (chains s t))
  nested_is s none q = sym (earlier_none q)
  nested_is s (tree tag value line place kids rest) q = go (expression tag) (λ q. nested_is s rest q) (λ z. noted_is s kids z) (nested_is s kids q)
    where
      go : (a : Bool) → ((q : Option ℕ) → nested s rest q ≡ earlier q (lows (chains s rest)))
          → ((z : Note) → noted s kids z ≡ adding (run z (operators s kids)) (lows (within s kids)))
          → nested s kids q ≡ earlier q (lows (chains s kids))
          → elim a [ true ↦ nested s rest (noted s kids (note false None q)).found | false ↦ nested s rest (nested s kids q) ]
          ≡ earlier q (lows (elim a [ true ↦ operators s kids ∷ within s kids | false ↦ chains s kids ] ++ chains s rest))
      go true f g h = f (noted s kids (note false None q)).found
          ∙ ap (λ w. earlier w (lows (chains s rest))) (ap (λ z. z.found) (g (note false None q))
          ∙ ap (λ w. earlier w (lows (within s kids))) (run_found false None q (operators s kids))
          ∙ earlier_assoc q (run start (operators s kids)).found (lows (within s kids)))
          ∙ earlier_assoc q (lows (operators s kids ∷ within s kids)) (lows (chains s rest))
          ∙ ap (earlier q) (sym (lows_append (operators s kids ∷ within s kids) (chains s rest)))
      go false f g h = f (nested s kids q) ∙ ap (λ w. earlier w (lows (chains s rest))) h ∙ earlier_assoc q (lows (chains s kids)) (lows (chains s rest))
          ∙ ap (earlier q) (sym (lows_append (chains s kids) (chains s rest)))

-- at the place i a `~=` of one of the chains quarrels
record Among (cs : List (List Op)) (i : ℕ) : Type 0 where
  chain : List Op
  its : In chain cs
  placed : Placed chain i

lows_lowest : (cs : List (List Op)) → Least (Among cs) (lows cs)
unfolding lows
lows_lowest [] = nowhere (λ i x. no_chain x.its)
  where
    no_chain : {c : List Op} → In c [] → ⊥
    no_chain = elim [ ]
lows_lowest (c ∷ cs) = least_alike join split (least_both (run_lowest c) (lows_lowest cs))
  where
    join : (i : ℕ) → Placed c i ⊎ Among cs i → Among (c ∷ cs) i
    join i (inl x) = record { chain = c; its = here; placed = x }
    join i (inr x) = record { chain = x.chain; its = there x.its; placed = x.placed }

    split : (i : ℕ) → Among (c ∷ cs) i → Placed c i ⊎ Among cs i
    split i x = go x.its x.placed
      where
        go : {d : List Op} → In d (c ∷ cs) → Placed d i → Placed c i ⊎ Among cs i
        go here p = inl p
        go {d} (there h) p = inr record { chain = d; its = h; placed = p }

nested_lowest : (s : List ℕ) (t : Forest) → Least (Quarrelling s t) (nested s t None)
nested_lowest s t = rw (nested_is s t None)
    (least_alike {P = Among (chains s t)} (λ i x. record { chain = x.chain; its = x.its; one = x.placed.one; quarrels = x.placed.quarrels; there = x.placed.there })
    (λ i x. record { chain = x.chain; its = x.its; placed = record { one = x.one; quarrels = x.quarrels; there = x.there } }) (lows_lowest (chains s t)))

-- nothing is found exactly if nothing quarrels, and i exactly if it is the first that does
pub found_none : (s : List ℕ) (t : Forest) → (nested s t None ≡ None) ↔ ((i : ℕ) → ¬ Quarrelling s t i)
found_none s t = exactly_none (nested_lowest s t)

pub found_some : (s : List ℕ) (t : Forest) (i : ℕ) → (nested s t None ≡ Some i) ↔ First s t i
found_some s t i = let h = exactly_some i (nested_lowest s t) in (
  (λ e. record { quarrelling = (h.0 e).0; lowest = (h.0 e).1 }),
  (λ x. h.1 (x.quarrelling, x.lowest)),
)
