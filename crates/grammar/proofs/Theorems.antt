-- The theorems: the reading accepts what the grammar derives, and nothing else, within any number of levels and under any ranking
-- of section 9's operators; what more levels change; how large a tree is; two rankings side by side. Assumes nothing.
use mathlib.Core.Path.{◌≡◌, refl}
use mathlib.Core.List.{List}
use mathlib.Core.Bool.{Bool, true}
use Prim.Native.Nat.{ℕ, zero, suc, ◌+◌, ◌*◌, ◌≤◌, ◌<◌}
use native.Mathlib.Nat.{add-zero, add-suc}
use lib.Dec.{ltb}
use borrow.Author.Tests.{lt-ltb}
use Rattle.operators.specs.Ranks.{Ranks, Row, row, binary, find, ranks}
use Rattle.operators.specs.declared.Ranking.{Ranking}
use Rattle.operators.specs.declared.Ranking.TheVariants.{Crate, Manual}
use Rattle.operators.proofs.Laws.{each, rule, find_kind}
use Rattle.tree.specs.Forest.{Forest, size}
use Rattle.grammar.specs.Member.{member}
use Rattle.grammar.specs.Grammar.{Chunk, Ranked, binop}
use Rattle.grammar.specs.Reading.{Out, fine}
use Rattle.grammar.specs.Levels.{chunk}
use Rattle.grammar.specs.Compare.{Rises, stays, deeper, Alike}
use Rattle.grammar.proofs.Tests.{imp, imp_at}
use Rattle.grammar.proofs.Levels as L
use Rattle.grammar.proofs.Size as S
use Rattle.grammar.proofs.Rankings.{rankings}
use Rattle.grammar.proofs.Same.{to_terms, from_terms}

module _ (s : List ℕ) (rank : Ranks) (levels : ℕ) where
  module _ (ranked : Ranked rank) where
    -- what is accepted is derived
    pub sound : {p m v : ℕ} {t : Forest} → chunk s rank levels ≡ fine p m t v → Chunk s rank levels t
    sound {p} {m} {v} {t} h = from_terms s rank ranked (L.sound s rank levels p m v t h)

    -- what is derived is accepted, with that tree
    pub complete : {t : Forest} (c : Chunk s rank levels t) → (m : ℕ) × (chunk s rank levels ≡ fine c.end m t 0)
    complete {t} c = L.complete s rank levels t (to_terms s rank ranked c)

    -- one tree at most
    pub unique : {t u : Forest} → Chunk s rank levels t → Chunk s rank levels u → t ≡ u
    unique {t} {u} c d = L.unique s rank levels t u (to_terms s rank ranked c) (to_terms s rank ranked d)

    -- four records a token, and one more
    pub small : {t : Forest} (c : Chunk s rank levels t) → size t ≤ 4 * c.end + 1
    small {t} c = S.small s rank levels t (to_terms s rank ranked c)

further : {a b c : Out} → Rises a b → Rises b c → Rises a c
further stays y = y
further (deeper x) y = deeper x

-- more levels turn a refusal 5 into something else, and change nothing besides
pub raised : (s : List ℕ) (rank : Ranks) (levels more : ℕ) → Rises (chunk s rank levels) (chunk s rank (levels + more))
raised s rank levels zero = rw add-zero stays
raised s rank levels (suc more) = rw add-suc (further (raised s rank levels more) (L.rises s rank (levels + more)))

-- two rankings of the same operators, within the same levels: alike, unless one of them ends in a refusal 5
pub side_by_side : (s : List ℕ) (rank rank' : Ranks) → ((k : ℕ) → ltb 0 (rank.left k) ≡ ltb 0 (rank'.left k)) → (levels : ℕ) → Alike (chunk s rank levels) (chunk s rank' levels)
side_by_side = rankings

-- the crate's ranking and the manual's are rankings of section 9's operators
listed : Row → Row → Bool
listed x y = imp (ltb 0 x.left) (member x.kind binop)

all_listed : (k : ℕ) (rows : List Row) → each listed rows rows ≡ true → listed (row k 0 0 0) (row k 0 0 0) ≡ true → 0 < (find k rows).left → member k binop ≡ true
unfolding listed
all_listed k rows h d l = rw find_kind at (imp_at _ _ (rule listed k rows rows h d) (lt-ltb _ _ l))

pub is_ranked : (r : Ranking) → Ranked (ranks r)
unfolding imp listed
is_ranked Crate k l = all_listed k (binary 10) refl refl l
is_ranked Manual k l = all_listed k (binary 3) refl refl l
