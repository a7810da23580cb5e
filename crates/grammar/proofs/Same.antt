-- The grammar of section 9 and the terms derive the same, within any number of levels. Assumes nothing.
use mathlib.Core.Path.{refl}
use mathlib.Core.List.{List}
use Prim.Native.Nat.{ℕ, zero, suc}
use Rattle.operators.specs.Ranks.{Ranks}
use Rattle.tree.specs.Forest.{Forest}
use Rattle.grammar.specs.Grammar.{Ranked}
use Rattle.grammar.specs.Grammar as G
use Rattle.grammar.proofs.Derives as T
use Rattle.grammar.proofs.Sets.{known}
use Rattle.grammar.proofs.Lower.{Lower}
use Rattle.grammar.proofs.Up.{to_block, to_expression, to_stat, exp_first', stat_first', name_exp', block_ends}
use Rattle.grammar.proofs.Down.{from_block, from_expression, from_statement}

module _ (s : List ℕ) (rank : Ranks) (ranked : Ranked rank) where
  pub lower : (g : ℕ) → Lower s (G.phrases s rank g) (T.phrases s rank g)
  lower zero =
      record {
        exp_to = λ d. absurd d;
        exp_from = λ d. absurd d;
        stat_to = λ d e. absurd d;
        stat_from = λ d. absurd d;
        exp_first = λ d. absurd d;
        stat_first = λ d. absurd d;
        name_exp = λ d x y. absurd d;
      }
  lower (suc g) =
      let P = G.phrases s rank g in
      let Q = T.phrases s rank g in
      let low = lower g in
      record {
        exp_to = λ {l} d. to_expression s rank l P Q low d;
        exp_from = λ {l} d. from_expression s rank l P Q low ranked d;
        stat_to = λ d e. to_stat s rank 0 P Q low d e;
        stat_from = λ d. from_statement s rank 0 P Q low d;
        exp_first = λ {l} d. exp_first' s rank l P Q low d;
        stat_first = λ d. stat_first' s rank 0 P Q low d;
        name_exp = λ d x y. name_exp' s rank 0 P Q low d x y;
      }

  abbrev pub to_terms : {g : ℕ} {t : Forest} → G.Chunk s rank g t → T.Chunk s rank g t
  to_terms {g} c = record { end = c.end; all = c.all; value = 0; derived = to_block s rank 0 (G.phrases s rank g) (T.phrases s rank g) (lower g) c.derived (known block_ends c.all refl) }

  pub from_terms : {g : ℕ} {t : Forest} → T.Chunk s rank g t → G.Chunk s rank g t
  from_terms {g} c = record { end = c.end; all = c.all; derived = (from_block s rank 0 (G.phrases s rank g) (T.phrases s rank g) (lower g) c.derived).0 }
