-- The whole stream: what the reading of it answers, and the promise of the public calls. Assumes nothing.
use mathlib.Core.Path.{◌≡◌, refl, sym, ap, ◌∙◌, subst}
use mathlib.Core.Bool.{true, false}
use mathlib.Core.List.{List}
use Prim.Native.Nat.{ℕ, ◌*◌, ◌≤◌, ◌<◌}
use native.Mathlib.Omega.{arith}
use Rattle.std.specs.Prelude.{Option, Some, None}
use Rattle.std.specs.Option.{is_some}
use lib.ListN.{length}
use lib.Seq.{sets}
use borrow.Author.Tests.{eq-eqb, ne_eqb}
use Rattle.stream.specs.Formed.{Formed}
use Rattle.stream.specs.Reader.{told, look_ahead}
use Rattle.stream.specs.declared.reader.Cursor.{Cursor}
use Rattle.stream.specs.declared.reader.Note.{Note}
use Rattle.stream.specs.declared.reader.Token.{Token}
use Rattle.stream.specs.declared.reader.Refusal.{Refusal}
use Rattle.stream.proofs.Judged.{formed_not_malformed}
use Rattle.operators.specs.Ranks.{ranks}
use Rattle.operators.specs.declared.Ranking.{Ranking}
use Rattle.tree.specs.Forest.{Forest, none, size, flat}
use Rattle.tree.proofs.Lay.{lay_whole}
use Rattle.grammar.specs.Grammar.{Chunk}
use Rattle.grammar.specs.Reading.{fine, fail, hold, loop, read}
use Rattle.grammar.specs.Productions.{block, retstat, explist}
use Rattle.grammar.specs.Levels.{readers, finish, chunk}
use Rattle.grammar.proofs.Tests.{wrong, yes_case, no_case}
use Rattle.grammar.proofs.Theorems.{sound, unique, is_ranked}
use Rattle.grammar.proofs.Sides.{refused_none}
use Rattle.quarrel.specs.Notes.{Names, note, noted}
use Rattle.quarrel.proofs.Notes.{first_noted}
use Rattle.parser.specs.Contract.{Fine, says}
use Rattle.parser.specs.Answered.{Answered, Noted, refusing, counting, Zeroed}
use Rattle.parser.proofs.Steps.{saw, ran_out}
use Rattle.parser.proofs.Around.{settled}

abbrev pub start : Cursor
start = record { place = 0; mark = 0; note = note false None None }

module _ (s : List ℕ) (k : Ranking) where
  -- the chunk is a block, and nothing after it
  chunk_block : chunk s (ranks k) 199 ≡ finish s (says s k 199 block start)
  unfolding block retstat explist
  chunk_block = ap (finish s) (settled s k 0 199 (hold 0 0 none) (loop s (length s) (read s (ranks k) 0 (readers s (ranks k) 199) (hold 0 0 none) block)) block refl start)

  pub block_fails : {e : Refusal} → says s k 199 block start ≡ fail e → chunk s (ranks k) 199 ≡ fail e
  block_fails x = chunk_block ∙ ap (finish s) x

  module _ {n n' : List ℕ} {c d : Cursor} {u : ℕ} (f : Fine s (note false None None) 0 0 1 n n' (says s k 199 block start) c u 0) where
    pub chunk_ends : look_ahead s c 0 ≡ (None, d) → Fine s (note false None None) 0 0 1 n n' (chunk s (ranks k) 199) d u 0
    chunk_ends x =
        let r = ran_out s c x in
        let p : d.place ≡ c.place = ap (λ (z : Cursor). z.place) r.cursor in
        record {
          trees = f.trees;
          says = chunk_block ∙ ap (finish s) f.says ∙ yes_case _ _ _ (eq-eqb _ _ r.end) ∙ sym (ap (λ (z : Cursor). fine z.place z.mark f.trees 0) r.cursor);
          grown = f.grown;
          laid = f.laid;
          at = omega (arith, f.at);
          later = omega arith;
          room = omega (arith, f.room);
          noted = ap (λ (z : Cursor). z.note) r.cursor ∙ f.noted;
        }

    pub chunk_left : {t : Token} → look_ahead s c 0 ≡ (Some t, d) → chunk s (ranks k) 199 ≡ fail (record { number = 2; line = told s d.mark; found = 0; expected = 0 })
    chunk_left x =
        let g = saw s c x in
        chunk_block ∙ ap (finish s) f.says ∙ no_case _ _ _ (ne_eqb _ _ g.real)
        ∙ sym (ap (λ (z : Cursor). fail (record { number = 2; line = told s z.mark; found = 0; expected = 0 })) g.cursor)

    -- what a look behind the block comes to
    pub chunk_over : (o : Option Token) → (o, d) ≡ look_ahead s c 0 → false ≡ is_some o → Fine s (note false None None) 0 0 1 n n' (chunk s (ranks k) 199) d u 0
    chunk_over None x y = chunk_ends (sym x)
    chunk_over (Some t) x y = wrong y

    pub chunk_more : (o : Option Token) → (o, d) ≡ look_ahead s c 0 → true ≡ is_some o → chunk s (ranks k) 199 ≡ fail (record { number = 2; line = told s d.mark; found = 0; expected = 0 })
    chunk_more None x y = wrong (sym y)
    chunk_more (Some t) x y = chunk_left (sym x)

  -- where the reading accepts, its own tree alone is derived
  its_own : {p m v : ℕ} {t u : Forest} → chunk s (ranks k) 199 ≡ fine p m t v → Chunk s (ranks k) 199 u → t ≡ u
  its_own x d = unique s (ranks k) 199 (is_ranked k) (sound s (ranks k) 199 (is_ranked k) x) d

  -- an answer of the reading, and what it promises
  module _ {n n' : List ℕ} where
    pub answered_refused : {e : Refusal} → Formed s → chunk s (ranks k) 199 ≡ fail e → Zeroed n n' → Answered s k n n' (refusing e)
    answered_refused {e} f x z =
        record {
          malformed = λ q c. absurd (formed_not_malformed f c);
          accepts = λ t g d. absurd (refused_none s k 199 x t d);
          short = λ t g d. absurd (refused_none s k 199 x t d);
          refuses = λ e' g m y. (let q : e ≡ e' = cc (x, y) in ap refusing q, z);
        }

    module _ (c : Cursor) {t : Forest} (f : Formed s) (x : chunk s (ranks k) 199 ≡ fine c.place c.mark t 0) where
      pub answered_room : n' ≡ sets n 0 (flat t) → size t * 4 ≤ length n → Answered s k n n' (counting 0 (size t * 4))
      answered_room l r =
          record {
            malformed = λ q b. absurd (formed_not_malformed f b);
            accepts = λ u g d i. rw (sym (its_own x d)) (refl, l ∙ lay_whole n t r);
            short = λ u g d i. let q = ap size (its_own x d) in absurd (omega (arith, q, i, r));
            refuses = λ e g m y. absurd (m t (sound s (ranks k) 199 (is_ranked k) x));
          }

      pub answered_short : Zeroed n n' → length n < size t * 4 → Answered s k n n' (counting 7 (size t * 4))
      answered_short z r =
          record {
            malformed = λ q b. absurd (formed_not_malformed f b);
            accepts = λ u g d i. let q = ap size (its_own x d) in absurd (omega (arith, q, i, r));
            short = λ u g d i. (ap (λ (v : Forest). counting 7 (size v * 4)) (its_own x d), z);
            refuses = λ e g m y. absurd (m t (sound s (ranks k) 199 (is_ranked k) x));
          }

  -- the first that quarrels
  pub noted_refused : {e : Refusal} → chunk s (ranks k) 199 ≡ fail e → Noted s k None
  noted_refused x = record { derived = λ t f d. absurd (refused_none s k 199 x t d); underived = λ n. refl; unformed = λ p m. refl }

  pub noted_read : (c : Cursor) {t : Forest} {first : Option ℕ} → Formed s → chunk s (ranks k) 199 ≡ fine c.place c.mark t 0 → c.note ≡ noted s t (note false None None) → first ≡ c.note.found → Noted s k first
  noted_read c {t = t} f x q e =
      record {
        derived = λ u g d. subst (Names s u) (sym (e ∙ ap (λ (z : Note). z.found) q ∙ ap (λ (z : Forest). (noted s z (note false None None)).found) (its_own x d)))
            (first_noted s (ranks k) 199 (is_ranked k) d);
        underived = λ n. absurd (n t (sound s (ranks k) 199 (is_ranked k) x));
        unformed = λ p b. absurd (formed_not_malformed f b);
      }
