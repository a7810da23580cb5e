-- Trees, and the flat records that stand for them. Assumes nothing: these are definitions.
use Rattle.std.specs.Prelude.{List, [], ◌∷◌, ◌++◌, ℕ, suc, ◌+◌}

-- Trees side by side: none, or a first tree with its children, and the trees after it. `place` is the index of its
-- first token; of a tail, its operator; of a definition, its parenthesis; of a block, where it began to look. It is not written.
pub data Forest : Type 0 where
  none : Forest
  tree : (tag value line place : ℕ) (kids rest : Forest) → Forest

-- how many records
abbrev pub size : Forest → ℕ
size none = 0
size (tree tag value line place kids rest) = suc (size kids) + size rest

-- one after the other
abbrev pub join : Forest → Forest → Forest
join none b = b
join (tree tag value line place kids rest) b = tree tag value line place kids (join rest b)

-- the four words of a record
abbrev pub words : (tag value line size : ℕ) → List ℕ
words tag value line size = tag ∷ value ∷ line ∷ size ∷ []

-- the records: a parent first, its children in source order after it; the size counts the subtree, itself included
abbrev pub flat : Forest → List ℕ
flat none = []
flat (tree tag value line place kids rest) = words tag value line (suc (size kids)) ++ (flat kids ++ flat rest)
