-- What the grammar of section 9 derives, the terms derive: one lemma `to_..` a nonterminal, up to `to_expression` and `to_stat`.
-- Besides, what begins an exp and a stat (`exp_first'`, `stat_first'`), and that an exp that begins with a name that `=` follows
-- is that name (`name_exp'`). Assumes of the phrases one level down what Lower says, and nothing else.
use mathlib.Core.Path.{◌≡◌, refl, sym, ap, ◌∙◌, subst, subst₂}
use mathlib.Core.List.{List, [], ◌∷◌}
use mathlib.Core.Bool.{Bool, true, false}
use Prim.Native.Nat.{ℕ, zero, suc, ◌+◌, ◌*◌}
use native.Mathlib.Omega.{arith}
use native.Mathlib.Nat.{mul-one, mul-zero}
use borrow.Author.Tests.{eqb-true}
use Rattle.stream.specs.Kinds.{Else, ElseIf, End, EndOfStream, Function, In, Local, Not, Return, Until}
use Rattle.stream.specs.Kinds.{Minus, Len, Dots, Assign, SemiColon, Colon, Comma, LeftParen, RightParen, LeftBracket, LeftBrace, RightBrace, String, Name}
use Rattle.stream.specs.Words.{kind, payload}
use Rattle.operators.specs.Ranks.{Ranks, code, unary_code, find}
use Rattle.tree.specs.Forest.{Forest, none, tree, join}
use Rattle.tree.proofs.Lay.{join_none, join_assoc}
use Rattle.grammar.specs.Member.{member}
use Rattle.grammar.specs.Term.{Term, Look, ahead, next, check, second, far, unlined, here, many, opt}
use Rattle.grammar.specs.Term.{empty, any, leaf, weigh, coded, plus, exp, operand, ◌⨾◌, on, node, iter, again}
use Rattle.grammar.specs.Reading.{Held}
use Rattle.grammar.specs.Productions.{word, nameleaf, explist, retstat, block, parlist, funcbody, args, suffix, primary, suffixed, simple, head, tail, tails, expression}
use Rattle.grammar.specs.Productions.{ifstat, whilestat, dostat, forstat, repeatstat, functionstat, localfunction, localstat, breakstat, gotostat, exprstat, statement}
use Rattle.grammar.specs.Productions as T
use Rattle.grammar.specs.Grammar.{Among, Ends, first_exp, first_suffix, binop, unop, fieldsep, stated, made, name}
use Rattle.grammar.specs.Grammar as G
use Rattle.grammar.proofs.Derives.{Phrases, Derives}
use Rattle.grammar.proofs.Derives.{empty', expect', any', leaf', weigh', coded', plus', exp', operand', stat', seq', this', that', above', below', node', lead', held', kept', iter', again'}
use Rattle.grammar.proofs.Tests.{wrong, or_elim}
use Rattle.grammar.proofs.Among.{one as is}
use Rattle.grammar.proofs.Sets.{disjoint, subset, known, apart, within, only}
use Rattle.grammar.proofs.Lower.{Lower, stat_tokens, retree, before}
use Rattle.grammar.proofs.Turns.{stops, exp_turn, stat_turn, param_turn, field_turn, suffix_turn, elseif_turn, name_turn, fieldname_turn, target_turn}
use Rattle.grammar.proofs.Shapes.{last_var, last_call}

-- what can follow a block, a field
abbrev pub block_ends : List ℕ
block_ends = EndOfStream ∷ Else ∷ ElseIf ∷ End ∷ Until ∷ []

abbrev field_ends : List ℕ
field_ends = Comma ∷ SemiColon ∷ RightBrace ∷ []

-- a kind of a list is none that isn't in it
clash : {A : Type 0} {x k : ℕ} (ks : List ℕ) → member x ks ≡ true → x ≡ k → member k ks ≡ false → A
clash ks m a f = wrong (sym (known ks a f) ∙ m)

-- of alternatives told apart by the next token, the one for the kinds xs: `search picks` finds it
data Picks (xs : List ℕ) : Term → Term → Type 0 where
  this : {a : Term} → Picks xs a a
  first : {ks : List ℕ} {a c d : Term} → subset xs ks ≡ true → Picks xs a d → Picks xs (on next ks a c) d
  later : {ks : List ℕ} {a c d : Term} → disjoint xs ks ≡ true → Picks xs c d → Picks xs (on next ks a c) d

ruleset picks = (this, first, later, refl)

-- what begins a prefixexp, args
abbrev first_prefix : List ℕ
first_prefix = Name ∷ LeftParen ∷ []

abbrev first_args : List ℕ
first_args = LeftParen ∷ LeftBrace ∷ String ∷ []

-- `local` on its own, or with `function` after it
abbrev local : Term
local = on second (Function ∷ []) localfunction localstat

module _ (s : List ℕ) (rank : Ranks) (limit : ℕ) (P : G.Phrases) (Q : Phrases) where
  infixr 30 ◌▸◌
  infixr 30 ◌▹◌
  infixr 30 ◌◂◌
  abbrev D : Held → Term → Term → ℕ → ℕ → Forest → ℕ → Type 0
  D = Derives s rank limit Q

  -- the same with equal trees and an equal value
  re : {h : Held} {b e : Term} {i j v v' : ℕ} {t t' : Forest} → t ≡ t' → v ≡ v' → D h b e i j t v → D h b e i j t' v'
  re {h} {b} {e} {i} {j} = subst₂ (D h b e i j)

  renode : {h : Held} {b e : Term} {i j tag v v' l p : ℕ} {t t' : Forest} → v ≡ v' → t ≡ t' → D h b e i j (tree tag v l p t none) 0 → D h b e i j (tree tag v' l p t' none) 0
  renode {h} {b} {e} {i} {j} = retree (λ t. D h b e i j t 0)

  -- one after the other, where the first has no value; the second; the second has neither trees nor value
  ◌▸◌ : {h : Held} {b e f : Term} {i j k w : ℕ} {t u : Forest} → D h b e i j t 0 → D h b f j k u w → D h b (e ⨾ f) i k (join t u) w
  d ▸ r = re refl (omega arith) (seq' d r)

  ◌▹◌ : {h : Held} {b e f : Term} {i j k v : ℕ} {t u : Forest} → D h b e i j t v → D h b f j k u 0 → D h b (e ⨾ f) i k (join t u) v
  d ▹ r = re refl (omega arith) (seq' d r)

  ◌◂◌ : {h : Held} {b e f : Term} {i j k v : ℕ} {t : Forest} → D h b e i j t v → D h b f j k none 0 → D h b (e ⨾ f) i k t v
  d ◂ r = re (join_none _) refl (d ▹ r)

  -- a choice: by a kind, by kinds, among alternatives
  now : {h : Held} {b e f : Term} {l : Look} {ks : List ℕ} {i j v k : ℕ} {t : Forest} → kind s (far l i) ≡ k → member k ks ≡ true → D h b e i j t v → D h b (on l ks e f) i j t v
  now {ks} a m d = this' (known ks a m) d

  not : {h : Held} {b e f : Term} {l : Look} {ks : List ℕ} {i j v k : ℕ} {t : Forest} → kind s (far l i) ≡ k → member k ks ≡ false → D h b f i j t v → D h b (on l ks e f) i j t v
  not {ks} a m d = that' (known ks a m) d

  inside : {h : Held} {b e f : Term} {l : Look} {ks : List ℕ} {i j v : ℕ} {t : Forest} (xs : List ℕ) → member (kind s (far l i)) xs ≡ true → subset xs ks ≡ true
      → D h b e i j t v → D h b (on l ks e f) i j t v
  inside {l} {ks} {i} xs m x d = this' (within (kind s (far l i)) xs ks x m) d

  outside : {h : Held} {b e f : Term} {l : Look} {ks : List ℕ} {i j v : ℕ} {t : Forest} (xs : List ℕ) → member (kind s (far l i)) xs ≡ true → disjoint xs ks ≡ true
      → D h b f i j t v → D h b (on l ks e f) i j t v
  outside {l} {ks} {i} xs m x d = that' (apart (kind s (far l i)) xs ks x m) d

  pick_of : (xs : List ℕ) {h : Held} {b e : Term} {i j v : ℕ} {t : Forest} (a : Term) → Among s xs i → Picks xs e a → D h b a i j t v → D h b e i j t v
  pick_of xs a m this d = d
  pick_of xs a m (first x p) d = inside xs m x (pick_of xs a m p d)
  pick_of xs a m (later x p) d = outside xs m x (pick_of xs a m p d)

  pick : {h : Held} {b e : Term} {i j v k : ℕ} {t : Forest} (a : Term) → kind s i ≡ k → Picks (k ∷ []) e a → D h b a i j t v → D h b e i j t v
  pick {k} a x p d = pick_of (k ∷ []) a (is x) p d

  -- a token, of these kinds or of this one; what is said of the token before; a name
  skip : {h : Held} {b : Term} {i : ℕ} (ks : List ℕ) → Among s ks i → member EndOfStream ks ≡ false → D h b any i (i + 1) none 0
  skip ks m f = any' (λ z. clash ks m z f)

  take : {h : Held} {b : Term} {i k : ℕ} → kind s i ≡ k → member EndOfStream (k ∷ []) ≡ false → D h b any i (i + 1) none 0
  take {k} a f = skip (k ∷ []) (is a) f

  leafed : {h : Held} {b : Term} {i tag : ℕ} → D h b (leaf tag) (i + 1) (i + 1) (made s tag (payload s i) i none) 0
  leafed {h} {b} {i} {tag} = subst (λ p. D h b (leaf tag) (i + 1) (i + 1) (made s tag (payload s p) p none) 0) (before i) leaf'

  weighed : {h : Held} {b : Term} (i : ℕ) → D h b weigh (i + 1) (i + 1) none (payload s i)
  weighed i = re refl (ap (payload s) (before i)) weigh'

  named : {h : Held} {b : Term} {i : ℕ} → kind s i ≡ Name → D h b nameleaf i (i + 1) (name s i) 0
  named a = expect' a ▸ leafed

  -- before what follows a repetition: one more turn, none
  more : {h : Held} {b e f : Term} {l : Look} {ks : List ℕ} {i j k v w : ℕ} {t u : Forest} → member (kind s (far l i)) ks ≡ true
      → D h (on l ks (e ⨾ again) empty) e i j t v → D h b (many l ks e ⨾ f) j k u w → D h b (many l ks e ⨾ f) i k (join t u) (v + w)
  more m d (seq' (iter' r) q) = re (simp join_assoc) (omega arith) (seq' (iter' (this' m (seq' d (again' r)))) q)

  over : {h : Held} {b e f : Term} {l : Look} {ks : List ℕ} {i j v k : ℕ} {t : Forest} → kind s (far l i) ≡ k → member k ks ≡ false → D h b f i j t v → D h b (many l ks e ⨾ f) i j t v
  over a m d = iter' (not a m empty') ▸ d

  module _ (low : Lower s P Q) where
    sub : {h : Held} {b : Term} {l i j : ℕ} {t : Forest} → P.exps l i j t → D h b (exp l) i j t 0
    sub x = exp' (low.exp_to x)

    operated : {h : Held} {b : Term} (i : ℕ) {j : ℕ} {t : Forest} → P.exps (rank.right (kind s i)) (i + 1) j t → D h b (coded ⨾ operand) (i + 1) j t (code (kind s i))
    operated i {j} {t} x =
        re refl (ap (λ p. code (kind s p)) (before i)) (coded' ▹ operand' (low.exp_to (subst (λ p. P.exps (rank.right (kind s p)) (i + 1) j t) (sym (before i)) x)))

    -- the first and the rest of an explist: what they make together, A, the list makes
    exps : {h : Held} {i j n : ℕ} {t : Forest} (w : ℕ) (A : Forest → ℕ → Type 0) → G.Explist s rank P i j n t
        → ((p m : ℕ) (e u : Forest) → P.exps 0 i p e → D h (exp_turn w) (exp_turn w) p j u m → A (join e u) (w + m)) → A t (n * w)
    exps w A (G.one_exp x e) g = subst₂ A (join_none _) (omega arith) (g _ _ _ _ x (that' e empty'))
    exps w A (G.more_exps x c l) g =
        subst (A _) (omega arith) (g _ _ _ _ x (exps w (D _ _ _ _ _) l (λ p m e u y r. now c refl (seq' (take c refl ▸ plus' ▹ sub y) (again' r)))))

    pub to_explist : {h : Held} {b : Term} {i j n v : ℕ} {t : Forest} → G.Explist s rank P i j n t → (w : ℕ) → n * w ≡ v → D h b (explist w) i j t v
    unfolding explist
    to_explist l w e = re refl e (exps w (D _ _ _ _ _) l (λ p m e u x r. seq' plus' (sub x ▸ iter' r)))

    explist_first : {i j n : ℕ} {t : Forest} → G.Explist s rank P i j n t → Among s first_exp i
    explist_first (G.one_exp x e) = low.exp_first x
    explist_first (G.more_exps x c l) = low.exp_first x

    to_optional : {h : Held} {b : Term} {i j : ℕ} → G.Optional s rank P i j → D h b (opt check (SemiColon ∷ []) any) i j none 0
    to_optional (G.absent e) = that' e empty'
    to_optional (G.present c) = now c refl (take c refl)

    pub to_retstat : {h : Held} {b : Term} {i j : ℕ} {t : Forest} → G.Retstat s rank P i j t → Among s block_ends j → D h b retstat i j t 0
    unfolding retstat
    to_retstat (G.return a e (G.absent f)) m = node' (expect' a ▸ inside block_ends m refl empty' ▸ that' f empty')
    to_retstat (G.return a e (G.present c)) m = node' (expect' a ▸ now c refl empty' ▸ now c refl (take c refl))
    to_retstat (G.return_exps a l o) m = node' (expect' a ▸ outside first_exp (explist_first l) refl (to_explist l 1 (mul-one _)) ◂ to_optional o)

    retstat_first : {i j : ℕ} {t : Forest} → G.Retstat s rank P i j t → kind s i ≡ Return
    retstat_first (G.return a e o) = a
    retstat_first (G.return_exps a l o) = a

    -- no stat of a block is followed by what would make a target of it
    stats_first : {i j : ℕ} {t : Forest} → G.Stats s rank P i j t → Among s stops j → Ends s (Assign ∷ Comma ∷ []) i
    stats_first (G.done {i = i} e) m = apart (kind s i) stops (Assign ∷ Comma ∷ []) refl m
    stats_first (G.semicolon c l) m = known (Assign ∷ Comma ∷ []) c refl
    stats_first (G.next {i = i} x l) m = apart (kind s i) stat_tokens (Assign ∷ Comma ∷ []) refl (low.stat_first x)

    to_stats : {h : Held} {i j : ℕ} {t : Forest} → G.Stats s rank P i j t → Among s stops j → D h stat_turn stat_turn i j t 0
    to_stats (G.done e) m = this' m empty'
    to_stats (G.semicolon c l) m = not c refl (now c refl (take c refl) ▸ again' (to_stats l m))
    to_stats (G.next x l) m =
        let f = low.stat_first x in
        outside stat_tokens f refl (outside stat_tokens f refl (stat' (low.stat_to x (stats_first l m))) ▸ again' (to_stats l m))

    pub to_block : {h : Held} {b : Term} {i j : ℕ} {t : Forest} → G.Block s rank P i j t → Among s block_ends j → D h b block i j t 0
    unfolding block
    to_block (G.open_ended {j = j} l e) m = node' (iter' (to_stats l (within (kind s j) block_ends stops refl m)) ◂ that' e empty' ▸ that' refl empty')
    to_block (G.returning l r) m =
        let a = retstat_first r in
        node' (iter' (to_stats l (known stops a refl)) ▸ now a refl (plus' ▹ to_retstat r m) ◂ that' refl empty')

    block_end : {h : Held} {b : Term} {i j : ℕ} {t : Forest} → G.Block s rank P i j t → kind s j ≡ End → D h b (block ⨾ word End) i (j + 1) t 0
    block_end x e = to_block x (known block_ends e refl) ◂ expect' e

    varargs : {h : Held} {i : ℕ} → kind s i ≡ Dots → D h param_turn param_turn i (i + 1) none 1
    varargs d = not d refl (now d refl (take d refl ▸ plus'))

    param : {h : Held} {i k v : ℕ} {u : Forest} → kind s i ≡ Name → D h param_turn (opt check (Comma ∷ []) (any ⨾ again)) (i + 1) k u v → D h param_turn param_turn i k (join (name s i) u) (2 + v)
    param a r = now a refl (take a refl ▸ leafed ▸ seq' plus' r)

    params : {h : Held} {i j k n v : ℕ} {t u : Forest} → G.Namelist s rank P i j n t → D h param_turn (opt check (Comma ∷ []) (any ⨾ again)) j k u v
        → D h param_turn param_turn i k (join t u) (2 * n + v)
    params (G.one_name a) r = param a r
    params (G.more_names a c l) r = re refl (omega arith) (param a (now c refl (take c refl ▸ again' (params l r))))

    pub to_parlist : {h : Held} {b : Term} {i j v : ℕ} {t : Forest} → G.Parlist s rank P i j v t → Ends s (Comma ∷ []) j → D h b parlist i j t v
    unfolding parlist
    to_parlist (G.names l) e = re (join_none _) (omega arith) (iter' (params l (that' e empty')))
    to_parlist (G.names_dots l c d) e = re (join_none _) refl (iter' (params l (now c refl (take c refl ▸ again' (varargs d)))))
    to_parlist (G.dots d) e = iter' (varargs d)

    namelist_first : {i j n : ℕ} {t : Forest} → G.Namelist s rank P i j n t → kind s i ≡ Name
    namelist_first (G.one_name a) = a
    namelist_first (G.more_names a c l) = a

    parlist_first : {i j v : ℕ} {t : Forest} → G.Parlist s rank P i j v t → Among s (Name ∷ Dots ∷ []) i
    parlist_first (G.names l) = known (Name ∷ Dots ∷ []) (namelist_first l) refl
    parlist_first (G.names_dots l c d) = known (Name ∷ Dots ∷ []) (namelist_first l) refl
    parlist_first (G.dots d) = known (Name ∷ Dots ∷ []) d refl

    pub to_funcbody : {h : Held} {b : Term} {i j : ℕ} {t : Forest} → G.Funcbody s rank P i j t → D h b funcbody i j t 0
    unfolding funcbody
    to_funcbody (G.no_pars a c x e) = node' (expect' a ▸ now c refl empty' ▸ expect' c ▸ block_end x e)
    to_funcbody (G.pars a l c x e) =
        node' (expect' a ▸ outside (Name ∷ Dots ∷ []) (parlist_first l) refl (to_parlist l (known (Comma ∷ []) c refl)) ▹ expect' c ▸ block_end x e)

    funcbody_first : {i j : ℕ} {t : Forest} → G.Funcbody s rank P i j t → kind s i ≡ LeftParen
    funcbody_first (G.no_pars a c x e) = a
    funcbody_first (G.pars a l c x e) = a

    -- an exp that is a field; were it a name that `=` follows, it would end at that `=`
    to_item : {h : Held} {b : Term} {i j : ℕ} {t : Forest} (r q : Bool) → member (kind s i) (Name ∷ []) ≡ r → member (kind s (i + 1)) (Assign ∷ []) ≡ q
        → P.exps 0 i j t → Among s field_ends j → D h b T.field i j (made s 36 0 i t) 0
    unfolding T.field
    to_item true true a e x m = clash field_ends m (ap (kind s) (low.name_exp x (only a) (only e)) ∙ only e) refl
    to_item true false a e x m = this' a (that' e (node' (sub x)))
    to_item false q a e x m = that' a (outside first_exp (low.exp_first x) refl (node' (sub x)))

    pub to_field : {h : Held} {b : Term} {i j : ℕ} {t : Forest} → G.Field s rank P i j t → Among s field_ends j → D h b T.field i j t 0
    unfolding T.field
    to_field (G.indexed a x c e y) m = not a refl (now a refl (node' (take a refl ▸ sub x ▸ expect' c ▸ expect' e ▸ sub y)))
    to_field (G.named a e x) m = now a refl (now e refl (node' (expect' a ▸ weighed _ ▹ expect' e ▸ sub x)))
    to_field (G.item x) m = to_item _ _ refl refl x m

    field_first : {i j : ℕ} {t : Forest} → G.Field s rank P i j t → Among s (LeftBracket ∷ first_exp) i
    field_first (G.indexed a x c e y) = known (LeftBracket ∷ first_exp) a refl
    field_first (G.named a e x) = known (LeftBracket ∷ first_exp) a refl
    field_first (G.item {i = i} x) = within (kind s i) first_exp (LeftBracket ∷ first_exp) refl (low.exp_first x)

    -- a field, with what follows it; with a separator and the fields after that
    a_field : {h : Held} {b f : Term} {i j k v : ℕ} {t u : Forest} → G.Field s rank P i j t → Among s field_ends j → D h b f j k u v
        → D h b (on check (RightBrace ∷ []) (word RightBrace) (plus 1 ⨾ T.field ⨾ f)) i k (join t u) (1 + v)
    a_field x m d = outside (LeftBracket ∷ first_exp) (field_first x) refl (seq' plus' (to_field x m ▸ d))

    more_fields : {h : Held} {i j k v : ℕ} {t u : Forest} → G.Field s rank P i j t → Among s fieldsep j → D h field_turn field_turn (j + 1) k u v → D h field_turn field_turn i k (join t u) (1 + v)
    more_fields {j} x m d = a_field x (within (kind s j) fieldsep field_ends refl m) (this' m (skip fieldsep m refl ▸ again' d))

    to_fields : {h : Held} {i j n : ℕ} {t : Forest} → G.Fieldlist s rank P i j n t → kind s j ≡ RightBrace → D h field_turn field_turn i (j + 1) t n
    to_fields (G.last_field x) e = re (join_none _) refl (a_field x (known field_ends e refl) (not e refl (expect' e)))
    to_fields (G.last_field_sep x m) e = re (join_none _) refl (more_fields x m (now e refl (expect' e)))
    to_fields (G.more_fields x m l) e = re refl (omega arith) (more_fields x m (to_fields l e))

    pub to_table : {h : Held} {b : Term} {i j : ℕ} {t : Forest} → G.Tableconstructor s rank P i j t → D h b T.table i j t 0
    unfolding T.table
    to_table (G.no_fields a e) = node' (expect' a ▸ iter' (now e refl (expect' e)))
    to_table (G.fields a l e) = node' (expect' a ▸ iter' (to_fields l e))

    table_first : {i j : ℕ} {t : Forest} → G.Tableconstructor s rank P i j t → kind s i ≡ LeftBrace
    table_first (G.no_fields a e) = a
    table_first (G.fields a l e) = a

    pub to_args : {h : Held} {b : Term} {i j n v : ℕ} {t : Forest} → G.Args s rank P i j n t → (w : ℕ) → n * w ≡ v → D h b (args w) i j t v
    unfolding args
    to_args (G.no_args a c) w e = re refl (omega arith) (now a refl (take a refl ▸ now c refl empty' ▸ expect' c))
    to_args (G.list_args a l c) w e = now a refl (take a refl ▸ outside first_exp (explist_first l) refl (to_explist l w e) ◂ expect' c)
    to_args (G.table_arg x) w e = let a = table_first x in re refl (omega arith) (not a refl (now a refl (plus' ▹ node' (to_table x))))
    to_args (G.string_arg a) w e = re refl (omega arith) (not a refl (not a refl (now a refl (plus' ▹ node' (take a refl ▸ leafed)))))

    args_first : {i j n : ℕ} {t : Forest} → G.Args s rank P i j n t → Among s first_args i
    args_first (G.no_args a c) = known first_args a refl
    args_first (G.list_args a l c) = known first_args a refl
    args_first (G.table_arg x) = known first_args (table_first x) refl
    args_first (G.string_arg a) = known first_args a refl

    -- a prefixexp is a name or a group, and suffixes after it; the induction goes by their number
    module _ (A : ℕ → ℕ → ℕ → Forest → Type 0) (of-name : (i : ℕ) → kind s i ≡ Name → A i (i + 1) 0 (name s i))
        (of-group : (i j : ℕ) (e : Forest) → kind s i ≡ LeftParen → P.exps 0 (i + 1) j e → kind s j ≡ RightParen → A i (j + 1) 0 (made s 31 0 i e))
        (on-suffix : (i j k n : ℕ) (t u : Forest) → A i j n t → Among s first_suffix j → ((h : Held) (b : Term) → D h b suffix j k u 0) → A i k (suc n) (join t u)) where
      of_prefixexp : (n : ℕ) {i j : ℕ} {t : Forest} → G.Prefixexp s rank P i j n t → A i j n t
      unfolding suffix
      of_prefixexp zero (G.var (G.var_name a)) = of-name _ a
      of_prefixexp zero (G.group a x c) = of-group _ _ _ a x c
      of_prefixexp zero (G.functioncall x) = elim x [ ]
      of_prefixexp (suc n) (G.var (G.index p a x c)) =
          on-suffix _ _ _ _ _ _ (of_prefixexp n p) (known first_suffix a refl) (λ h b. not a refl (now a refl (node' (take a refl ▸ sub x ◂ expect' c))))
      of_prefixexp (suc n) (G.var (G.field p a c)) =
          on-suffix _ _ _ _ _ _ (of_prefixexp n p) (known first_suffix a refl) (λ h b. now a refl (node' (take a refl ▸ expect' c ▸ weighed _)))
      of_prefixexp (suc n) (G.functioncall (G.plain_call {j = j} p x)) =
          let m = args_first x in
          on-suffix _ _ _ _ _ _ (of_prefixexp n p) (within (kind s j) first_args first_suffix refl m)
          (λ h b. outside first_args m refl (outside first_args m refl (outside first_args m refl (node' (to_args x 1 (mul-one _))))))
      of_prefixexp (suc n) (G.functioncall (G.method_call p a c x)) =
          on-suffix _ _ _ _ _ _ (of_prefixexp n p) (known first_suffix a refl)
          (λ h b. not a refl (not a refl (now a refl (node' (take a refl ▸ expect' c ▸ weighed _ ▹ to_args x 0 (mul-zero _))))))

    prefix_first : {i j n : ℕ} {t : Forest} → G.Prefixexp s rank P i j n t → Among s first_prefix i
    prefix_first =
        of_prefixexp (λ i j n t. Among s first_prefix i) (λ i a. known first_prefix a refl) (λ i j e a x c. known first_prefix a refl) (λ i j k n t u f m d. f) _

    prefix_name : {i j n : ℕ} {t : Forest} → G.Prefixexp s rank P i j n t → kind s i ≡ Name → kind s (i + 1) ≡ Assign → j ≡ i + 1
    prefix_name =
        of_prefixexp (λ i j n t. kind s i ≡ Name → kind s (i + 1) ≡ Assign → j ≡ i + 1) (λ i a y z. refl) (λ i j e a x c y z. omega arith)
        (λ i j k n t u f m d y z. clash first_suffix m (ap (kind s) (f y z) ∙ z) refl) _

    suffixes : {h : Held} {b : Term} {i j k n m : ℕ} {t u : Forest} → G.Prefixexp s rank P i j n t → D h suffix_turn suffix_turn j k u m
        → D h b (primary ⨾ iter suffix_turn) i k (join t u) (n + m)
    unfolding primary
    suffixes {h} {b} {k} p =
        of_prefixexp (λ i j n t. (m : ℕ) (u : Forest) → D h suffix_turn suffix_turn j k u m → D h b (primary ⨾ iter suffix_turn) i k (join t u) (n + m))
        (λ i a m u r. seq' (not a refl (now a refl (take a refl ▸ leafed))) (iter' r))
        (λ i j e a x c m u r. seq' (now a refl (node' (take a refl ▸ sub x ◂ expect' c))) (iter' r))
        (λ i j k n t v f y d m u r. re (sym (join_assoc t v u)) (omega arith) (f _ _ (this' y (seq' (plus' ▹ d h suffix_turn) (again' r))))) _ p _ _

    pub to_suffixed : {h : Held} {b : Term} {i j n : ℕ} {t : Forest} → G.Prefixexp s rank P i j n t → Ends s first_suffix j → D h b suffixed i j (made s 29 n i t) 0
    unfolding suffixed
    to_suffixed p e = renode (omega arith) (join_none _) (node' (suffixes p (that' e empty')))

    -- what is told of an exp: what it is before further tails, what begins it, and when it is a name alone
    record Told (i j n : ℕ) (t : Forest) : Type 0 where
      tailed : (h : Held) (b : Term) (k m : ℕ) (u : Forest) → D h tail tail j k u m → D h b (head ⨾ iter tail) i k (join t u) (n + m)
      begins : Among s first_exp i
      lone : kind s i ≡ Name → kind s (i + 1) ≡ Assign → j ≡ i + 1

    -- of an operand without tails; of one that is a token
    told : {i j : ℕ} {t : Forest} → Among s first_exp i → (kind s i ≡ Name → kind s (i + 1) ≡ Assign → j ≡ i + 1) → ((h : Held) (b : Term) → D h b head i j t 0) → Told i j 0 t
    told m f d = record { tailed = λ h b k n u r. seq' (d h b) (iter' r); begins = m; lone = f }

    literal : {i k tag : ℕ} → kind s i ≡ k → Picks (k ∷ []) head (any ⨾ leaf tag) → member EndOfStream (k ∷ []) ≡ false → member k first_exp ≡ true
        → Told i (i + 1) 0 (made s tag (payload s i) i none)
    literal {tag} a p f m = told (known first_exp a m) (λ y z. refl) (λ h b. pick (any ⨾ leaf tag) a p (take a f ▸ leafed))

    to_unop : {h : Held} {b : Term} {i j k c : ℕ} {t : Forest} → P.exps 12 (i + 1) j t → kind s i ≡ k → Picks (k ∷ []) head (node 18 here unlined (any ⨾ plus c ⨾ exp 12))
        → member EndOfStream (k ∷ []) ≡ false → unary_code k ≡ c → D h b head i j (made s 18 (unary_code (kind s i)) i t) 0
    to_unop {c} x a p f e = renode (sym (ap unary_code a ∙ e)) refl (pick (node 18 here unlined (any ⨾ plus c ⨾ exp 12)) a p (node' (take a f ▸ plus' ▹ sub x)))

    to_unary : {h : Held} {b : Term} {i j : ℕ} {t : Forest} → Among s unop i → P.exps 12 (i + 1) j t → D h b head i j (made s 18 (unary_code (kind s i)) i t) 0
    unfolding head find
    to_unary m x =
        or_elim _ _ m (λ e. to_unop x (eqb-true _ Minus e) (search picks depth 6) refl refl)
        (λ m. or_elim _ _ m (λ e. to_unop x (eqb-true _ Not e) (search picks depth 6) refl refl)
        (λ m. or_elim _ _ m (λ e. to_unop x (eqb-true _ Len e) (search picks depth 6) refl refl) (λ m. to_unop x (only m) (search picks depth 6) refl refl)))

    tell : {i j n : ℕ} {t : Forest} → G.Exp s rank P limit i j n t → Told i j n t
    unfolding head simple tail
    tell (G.nil a) = literal a (search picks depth 12) refl refl
    tell (G.false_exp a) = literal a (search picks depth 12) refl refl
    tell (G.true_exp a) = literal a (search picks depth 12) refl refl
    tell (G.integer a) = literal a (search picks depth 12) refl refl
    tell (G.float a) = literal a (search picks depth 12) refl refl
    tell (G.string a) = literal a (search picks depth 12) refl refl
    tell (G.varargs a) = literal a (search picks depth 12) refl refl
    tell (G.function_exp (G.functiondef a x)) =
        told (known first_exp a refl) (λ y z. omega arith) (λ h b. pick (any ⨾ funcbody) a (search picks depth 15) (take a refl ▸ to_funcbody x))
    tell (G.prefix {i = i} p e) =
        let m = prefix_first p in
        told (within (kind s i) first_prefix first_exp refl m) (prefix_name p) (λ h b. pick_of first_prefix suffixed m (search picks depth 15) (to_suffixed p e))
    tell (G.table x) = let a = table_first x in told (known first_exp a refl) (λ y z. omega arith) (λ h b. pick T.table a (search picks depth 15) (to_table x))
    tell (G.binary {j = j} {t = t} {e = e} x m l y) =
        let r = tell x in
        record {
          tailed = λ h b k n u d. re (sym (join_assoc t (made s 19 (code (kind s j)) j e) u)) (omega arith) (r.tailed h b _ _ _ (above' l (seq' plus' (seq' (node' (skip binop m refl ▸ operated j y)) (again' d)))));
          begins = r.begins;
          lone = λ a b. clash binop m (ap (kind s) (r.lone a b) ∙ b) refl;
        }
    tell (G.unary {i = i} m x) = told (within (kind s i) unop first_exp refl m) (λ y z. clash unop m y refl) (λ h b. to_unary m x)

    pub to_expression : {h : Held} {b : Term} {i j : ℕ} {t : Forest} → G.Whole s rank P limit i j t → D h b expression i j t 0
    unfolding expression tail tails
    to_expression (G.whole x l) = renode (omega arith) (join_none _) (node' ((tell x).tailed _ _ _ _ _ (below' l empty')))

    pub exp_first' : {i j : ℕ} {t : Forest} → G.Whole s rank P limit i j t → Among s first_exp i
    exp_first' (G.whole x l) = (tell x).begins

    pub name_exp' : {i j : ℕ} {t : Forest} → G.Whole s rank P limit i j t → kind s i ≡ Name → kind s (i + 1) ≡ Assign → j ≡ i + 1
    name_exp' (G.whole x l) = (tell x).lone

    -- the first and the rest of a namelist, before what follows it
    names : {h : Held} {b f : Term} {i j k n : ℕ} {t u : Forest} (A : Forest → ℕ → Type 0) → G.Namelist s rank P i j n t → Ends s (Comma ∷ []) j → D h b f j k u 0
        → ((m : ℕ) (x : Forest) → kind s i ≡ Name → D h b (iter name_turn ⨾ f) (i + 1) k x m → A (join (name s i) x) (1 + m)) → A (join t u) n
    names A (G.one_name a) e d g = g _ _ a (iter' (that' e empty') ▸ d)
    names A (G.more_names a c l) e d g = subst (A _) (omega arith) (g _ _ a (names (D _ _ _ _ _) l e d (λ m x y r. more (is c) (take c refl ▸ named y ▸ plus') r)))

    attnames : {i j n : ℕ} {t : Forest} → G.Attnamelist s rank P i j n t → G.Namelist s rank P i j n t × Ends s (Comma ∷ []) j
    attnames (G.att a e) = (G.one_name a, e)
    attnames (G.atts a c l) = let r = attnames l in (G.more_names a c r.0, r.1)

    to_local : {h : Held} {b : Term} {i j k n : ℕ} {t u : Forest} → kind s i ≡ Local → G.Attnamelist s rank P (i + 1) j n t → D h b (opt check (Assign ∷ []) (any ⨾ explist 0)) j k u 0
        → D h b local i k (stated s 11 n i (join t u)) 0
    unfolding localstat
    to_local {h} {b} {i} {k} a l d =
        let x = attnames l in
        names (λ t v. D h b local i k (stated s 11 v i t) 0) x.0 x.1 d (λ m t y r. not y refl (node' (expect' a ▸ named y ▸ seq' plus' r)))

    -- in a `for`, what follows the first name
    namelist_second : {i j n : ℕ} {t : Forest} → G.Namelist s rank P i j n t → kind s j ≡ In → Among s (Comma ∷ In ∷ []) (i + 1)
    namelist_second (G.one_name a) e = known (Comma ∷ In ∷ []) e refl
    namelist_second (G.more_names a c l) e = known (Comma ∷ In ∷ []) c refl

    to_fieldnames : {h : Held} {b f : Term} {i j k v : ℕ} {t u : Forest} → G.Fields s rank P i j v t → kind s j ≡ LeftParen → D h b f j k u 0
        → D h b (iter fieldname_turn ⨾ opt ahead (Colon ∷ []) (any ⨾ nameleaf ⨾ plus 1) ⨾ f) i k (join t u) v
    to_fieldnames G.no_method e d = over e refl (not e refl empty' ▸ d)
    to_fieldnames (G.method a c) e d = over a refl (now a refl (take a refl ▸ named c ▸ plus') ▹ d)
    to_fieldnames (G.field_name a c l) e d = more (is a) (take a refl ▸ named c ▸ plus') (to_fieldnames l e d)

    elseifs_first : {i j n : ℕ} {t : Forest} → G.Elseifs s rank P i j n t → Among s block_ends j → Among s block_ends i
    elseifs_first G.none_left m = m
    elseifs_first (G.elseif a x c b l) m = known block_ends a refl

    to_elseifs : {h : Held} {b f : Term} {i j k n v c : ℕ} {t u : Forest} → G.Elseifs s rank P i j n t → kind s j ≡ c → member c block_ends ≡ true → member c (ElseIf ∷ []) ≡ false → D h b f j k u v
        → D h b (iter elseif_turn ⨾ f) i k (join t u) (2 * n + v)
    to_elseifs G.none_left e m z d = re refl (omega arith) (over e z d)
    to_elseifs (G.elseif a x c y l) e m z d =
        re (simp join_assoc) (omega arith)
        (more (is a) (take a refl ▸ plus' ▹ sub x ▸ expect' c ▸ to_block y (elseifs_first l (known block_ends e m))) (to_elseifs l e m z d))

    -- the first and the rest of a varlist, before what follows it; the rest is derived whatever is held
    a_target : {h : Held} {b : Term} {i j n : ℕ} {t : Forest} → G.Var s rank P i j n t → Among s (Assign ∷ Comma ∷ []) j → D h b suffixed i j (made s 29 n i t) 0
    a_target {j} v m = to_suffixed (G.var v) (apart (kind s j) (Assign ∷ Comma ∷ []) first_suffix refl m)

    vars : {b f : Term} {i j k n : ℕ} {t u : Forest} (A : Forest → ℕ → Type 0) → G.Varlist s rank P i j n t → kind s j ≡ Assign → ((h : Held) → D h b f j k u 0)
        → ((p q m : ℕ) (t x : Forest) → G.Var s rank P i p q t → Among s (Assign ∷ Comma ∷ []) p → ((h : Held) → D h b (iter target_turn ⨾ f) p k x m) → A (join (made s 29 q i t) x) (1 + m)) → A (join t u) n
    vars A (G.one_var v) a d g = g _ _ _ _ _ v (known (Assign ∷ Comma ∷ []) a refl) (λ h. over a refl (d h))
    vars {b} {f} {k} A (G.more_vars {j = j} v c l) a d g =
        subst (A _) (omega arith)
        (g _ _ _ _ _ v (known (Assign ∷ Comma ∷ []) c refl)
        (vars (λ x m. (h : Held) → D h b (iter target_turn ⨾ f) j k x m) l a d
        (λ p q m t x y e r h. more (is c) (take c refl ▸ kept' (last_var s rank P y) (a_target y e) ▸ plus') (r h))))

    -- what is said of a stat: what begins it, and what it is
    record Said (i j : ℕ) (t : Forest) : Type 0 where
      starts : Among s stat_tokens i
      derives : (h : Held) (b : Term) → Ends s (Assign ∷ Comma ∷ []) j → D h b statement i j t 0

    -- of one that a kind tells; of one that begins with a prefixexp
    said : {i j k : ℕ} {t : Forest} (a : Term) → kind s i ≡ k → Picks (k ∷ []) statement a → member k stat_tokens ≡ true → ((h : Held) (b : Term) → D h b a i j t 0) → Said i j t
    said a x p m d = record { starts = known stat_tokens x m; derives = λ h b e. pick a x p (d h b) }

    said_prefix : {i j p n : ℕ} {t u : Forest} → G.Prefixexp s rank P i p n u → ((h : Held) (b : Term) → Ends s (Assign ∷ Comma ∷ []) j → D h b exprstat i j t 0) → Said i j t
    unfolding statement
    said_prefix {i} x d =
        let m = prefix_first x in
        record { starts = within (kind s i) first_prefix stat_tokens refl m; derives = λ h b e. pick_of first_prefix exprstat m (search picks depth 13) (d h b e) }

    say : {i j : ℕ} {t : Forest} → G.Stat s rank P i j t → Said i j t
    unfolding statement ifstat whilestat dostat forstat repeatstat functionstat localfunction T.label breakstat gotostat exprstat
    say (G.assignment {i = i} {k = k} l a x) =
        vars (λ t v. Said i k (stated s 16 v i t)) l a (λ h. expect' a ▸ to_explist x 0 (mul-zero _))
        (λ p q m t y v e r. said_prefix (G.var v) (λ h b f. lead' (a_target v e) (this' e (node' (held' (last_var s rank P v) ▸ seq' plus' (r _))))))
    say (G.call c e) = said_prefix (G.functioncall c) (λ h b f. lead' (to_suffixed (G.functioncall c) e) (that' f (node' (held' (last_call s rank P c)))))
    say (G.label (G.labelled a c e)) = said T.label a (search picks depth 13) refl (λ h b. node' (expect' a ▸ expect' c ▸ weighed _ ▹ expect' e))
    say (G.break a) = said breakstat a (search picks depth 13) refl (λ h b. node' (take a refl))
    say (G.goto a c) = said gotostat a (search picks depth 13) refl (λ h b. node' (expect' a ▸ expect' c ▸ weighed _))
    say (G.do_end a x e) = said dostat a (search picks depth 13) refl (λ h b. node' (take a refl ▸ block_end x e))
    say (G.while a x c y e) = said whilestat a (search picks depth 13) refl (λ h b. node' (expect' a ▸ sub x ▸ expect' c ▸ block_end y e))
    say (G.repeat a x c y) = said repeatstat a (search picks depth 13) refl (λ h b. node' (expect' a ▸ to_block x (known block_ends c refl) ▸ expect' c ▸ sub y))
    say (G.if_end a x c y l e) =
        said ifstat a (search picks depth 13) refl
        (λ h b. node' (expect' a ▸ sub x ▸ expect' c ▸ to_block y (elseifs_first l (known block_ends e refl)) ▸ re (join_none _) (omega arith) (to_elseifs l e refl refl (not e refl empty' ▸ expect' e))))
    say (G.if_else a x c y l d z e) =
        said ifstat a (search picks depth 13) refl
        (λ h b. node' (expect' a ▸ sub x ▸ expect' c ▸ to_block y (elseifs_first l (known block_ends d refl))
        ▸ to_elseifs l d refl refl (now d refl (take d refl ▸ plus' ▹ to_block z (known block_ends e refl)) ◂ expect' e)))
    say (G.for_two a c d x e y f z g) =
        said forstat a (search picks depth 13) refl
        (λ h b. lead' (expect' a ▸ expect' c) (now d refl (node' (weighed _ ▹ take d refl ▸ sub x ▸ expect' e ▸ sub y ▸ not f refl empty' ▸ expect' f ▸ block_end z g))))
    say (G.for_three a c d x e y f z g w l) =
        said forstat a (search picks depth 13) refl
        (λ h b. lead' (expect' a ▸ expect' c) (now d refl (node' (weighed _ ▹ take d refl ▸ sub x ▸ expect' e ▸ sub y ▸ now f refl (take f refl ▸ sub z) ▸ expect' g ▸ block_end w l))))
    say (G.for_in {i = i} {l = k} a l c x d y e) =
        names (λ t v. Said i (k + 1) (stated s 7 v i t)) l (known (Comma ∷ []) c refl) (expect' c ▸ to_explist x 0 (mul-zero _) ▸ expect' d ▸ block_end y e)
        (λ m t z r. said forstat a (search picks depth 13) refl
        (λ h b. lead' (expect' a ▸ expect' z) (outside (Comma ∷ In ∷ []) (namelist_second l c) refl (this' (namelist_second l c) (node' (leafed ▸ seq' plus' r))))))
    say (G.function a (G.funcname c l) x) = said functionstat a (search picks depth 13) refl (λ h b. node' (expect' a ▸ named c ▸ to_fieldnames l (funcbody_first x) (to_funcbody x)))
    say (G.local_function a c d x) = said local a (search picks depth 13) refl (λ h b. now c refl (node' (take a refl ▸ expect' c ▸ expect' d ▸ weighed _ ▹ to_funcbody x)))
    say (G.local a l e) = said local a (search picks depth 13) refl (λ h b. renode refl (join_none _) (to_local a l (that' e empty')))
    say (G.local_is a l c x) = said local a (search picks depth 13) refl (λ h b. to_local a l (now c refl (take c refl ▸ to_explist x 0 (mul-zero _))))

    pub to_stat : {h : Held} {b : Term} {i j : ℕ} {t : Forest} → G.Stat s rank P i j t → Ends s (Assign ∷ Comma ∷ []) j → D h b statement i j t 0
    to_stat x e = (say x).derives _ _ e

    pub stat_first' : {i j : ℕ} {t : Forest} → G.Stat s rank P i j t → Among s stat_tokens i
    stat_first' x = (say x).starts
