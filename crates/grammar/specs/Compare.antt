-- Two readings held against each other. Assumes nothing: these are definitions.
use Rattle.std.specs.Prelude.{◌≡◌, ℕ}
use Rattle.stream.specs.declared.reader.Refusal.{Refusal}
use Rattle.tree.specs.Forest.{Forest, none, tree}
use Rattle.grammar.specs.Reading.{Out, fine, fail}

-- the second answer is the first, or the first is a refusal 5
pub data Rises : Out → Out → Type 0 where
  stays : {o : Out} → Rises o o
  deeper : {e : Refusal} {o : Out} → e.number ≡ 5 → Rises (fail e) o

-- the same trees, but for what stands in expressions
pub data Like : Forest → Forest → Type 0 where
  nones : Like none none
  trees : {tag v l p : ℕ} {k k' r r' : Forest} → Like k k' → Like r r' → Like (tree tag v l p k r) (tree tag v l p k' r')
  expressions : {tag v v' l p : ℕ} {k k' r r' : Forest} → tag ≡ 17 → Like r r' → Like (tree tag v l p k r) (tree tag v' l p k' r')

-- the same place, mark, value and trees (but for what stands in expressions) or the very same refusal, unless one of the two ends in a refusal 5
pub data Alike : Out → Out → Type 0 where
  fines : {p m v : ℕ} {t u : Forest} → Like t u → Alike (fine p m t v) (fine p m u v)
  fails : {e : Refusal} → Alike (fail e) (fail e)
  deep_left : {e : Refusal} {o : Out} → e.number ≡ 5 → Alike (fail e) o
  deep_right : {e : Refusal} {o : Out} → e.number ≡ 5 → Alike o (fail e)
