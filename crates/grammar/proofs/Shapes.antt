-- A var and a functioncall are told by the tag of their last tree. Assumes nothing.
use mathlib.Core.Path.{◌≡◌, refl}
use mathlib.Core.List.{List, [], ◌∷◌}
use mathlib.Core.Bool.{true}
use Prim.Native.Nat.{ℕ}
use Rattle.operators.specs.Ranks.{Ranks}
use Rattle.tree.specs.Forest.{Forest, none, tree, join}
use Rattle.grammar.specs.Member.{member}
use Rattle.grammar.specs.Reading.{last}
use Rattle.grammar.specs.Grammar.{Phrases, Var, Functioncall, var_name, index, field, plain_call, method_call}

pub last_join : (tag : ℕ) (t u : Forest) → last tag (join t u) ≡ last (last tag t) u
last_join tag none u = refl
last_join tag (tree tag' value line place kids rest) u = last_join tag' rest u

module _ (s : List ℕ) (rank : Ranks) (P : Phrases) where
  pub last_var : {i j n : ℕ} {t : Forest} → Var s rank P i j n t → member (last 0 t) (30 ∷ 32 ∷ 33 ∷ []) ≡ true
  last_var (var_name x) = refl
  last_var (index p x e y) = rw last_join
  last_var (field p x y) = rw last_join

  pub last_call : {i j n : ℕ} {t : Forest} → Functioncall s rank P i j n t → member (last 0 t) (34 ∷ 35 ∷ []) ≡ true
  last_call (plain_call p a) = rw last_join
  last_call (method_call p x y a) = rw last_join
