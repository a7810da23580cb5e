-- What the terms derive, the grammar of section 9 derives: one lemma `from_..` a production, up to `from_expression` and
-- `from_statement`. Assumes of the phrases one level down what Lower says, and of the ranking that its operators are section 9's.
use mathlib.Core.Path.{◌≡◌, refl, sym, ap, ◌∙◌, subst}
use mathlib.Core.List.{List, [], ◌∷◌}
use mathlib.Core.Bool.{true}
use Prim.Native.Nat.{ℕ, suc, ◌+◌, ◌-◌, ◌*◌, ◌≤◌, ◌<◌}
use native.Mathlib.Omega.{arith}
use native.Mathlib.Nat.{suc-mul, one-mul, zero-mul, mul-zero, mul-one}
use Rattle.stream.specs.Kinds.{Function, SemiColon, Comma, Assign, Name, Not, Minus, BitNotXor, Len, Do, Local, Break, For, In, While, EndOfStream, Else, ElseIf, End, If, Then, Until, Return, Dots, Dot, Colon, DoubleColon, String, LeftParen, RightParen, LeftBracket, RightBracket, LeftBrace, RightBrace}
use Rattle.stream.specs.Words.{kind, payload, line}
use Rattle.operators.specs.Ranks.{Ranks, code, unary_code, find}
use Rattle.tree.specs.Forest.{Forest, none, tree, join}
use Rattle.tree.proofs.Lay.{join_none, join_assoc}
use Rattle.grammar.specs.Member.{member}
use Rattle.grammar.specs.Term.{Term, Look, far, ahead, next, check, opt, many, ◌⨾◌, empty, any, leaf, coded, operand, plus, exp, stat, on, node, weigh, iter, again, held, kept, target, call, unlined, opening, here, back}
use Rattle.grammar.specs.Reading.{Held, hold, shaped, last, line_of}
use Rattle.grammar.specs.Productions.{word, named, look, nameleaf, expr}
use Rattle.grammar.specs.Productions.{explist, retstat, block, parlist, funcbody, field, table, args, suffix, primary, suffixed, simple, head, tail, tails, expression}
use Rattle.grammar.specs.Productions.{ifstat, whilestat, dostat, forstat, repeatstat, functionstat, localfunction, localstat, label, breakstat, gotostat, exprstat, statement}
use Rattle.grammar.specs.Grammar.{Among, Ends, name, stated, made, first_stat, first_exp, first_suffix, binop, unop, fieldsep}
use Rattle.grammar.specs.Grammar as G
use Rattle.grammar.proofs.Derives.{Phrases, Derives}
use Rattle.grammar.proofs.Derives.{empty', expect', any', leaf', weigh', coded', plus', exp', operand', stat', seq', this', that', above', below', node', lead', held', kept', iter', again'}
use Rattle.grammar.proofs.Tests.{wrong}
use Rattle.grammar.proofs.Sets.{known, apart, only}
use Rattle.grammar.proofs.Lower.{Lower, retree, revalue, before}
use Rattle.grammar.proofs.Turns.{stops, stat_turn, param_turn, field_turn, elseif_turn, name_turn, fieldname_turn, target_turn}
use Rattle.grammar.proofs.Opened.{either, surely, last_word, word_then, any_then, plus_then, name_then}
use Rattle.grammar.proofs.Shapes.{last_var, last_call}

module _ (s : List ℕ) (rank : Ranks) (limit : ℕ) (P : G.Phrases) (Q : Phrases) (low : Lower s P Q) where
  abbrev D : Held → Term → Term → ℕ → ℕ → Forest → ℕ → Type 0
  D = Derives s rank limit Q

  from_expr : {h : Held} {b : Term} {l i j v : ℕ} {t : Forest} → D h b (exp l) i j t v → P.exps l i j t × (v ≡ 0)
  from_expr (exp' d) = low.exp_from d

  -- {e}
  data Many (h : Held) (l : Look) (ks : List ℕ) (e : Term) : ℕ → ℕ → Forest → ℕ → Type 0 where
    stop : {i : ℕ} → Ends s ks (far l i) → Many h l ks e i i none 0
    turn : {i j k v w : ℕ} {t u : Forest} → Among s ks (far l i) → D h (on l ks (e ⨾ again) empty) e i j t v → Many h l ks e j k u w → Many h l ks e i k (join t u) (v + w)

  turns : {h : Held} {l : Look} {ks : List ℕ} {e : Term} {i j v : ℕ} {t : Forest} → D h (on l ks (e ⨾ again) empty) (on l ks (e ⨾ again) empty) i j t v → Many h l ks e i j t v
  turns (that' y empty') = stop y
  turns (this' y (seq' c (again' d))) = turn y c (turns d)

  from_many : {h : Held} {b e : Term} {l : Look} {ks : List ℕ} {i j v : ℕ} {t : Forest} → D h b (many l ks e) i j t v → Many h l ks e i j t v
  from_many (iter' d) = turns d

  -- Name, and its record
  data Named : ℕ → ℕ → Forest → Type 0 where
    as_name : {i : ℕ} → kind s i ≡ Name → Named i (i + 1) (name s i)

  -- a leaf is of the token before it
  name_back : {i : ℕ} → kind s i ≡ Name → Named i (i + 1) (tree 30 (payload s (i + 1 - 1)) 0 (i + 1 - 1) none none)
  name_back {i} x = subst (λ p. Named i (i + 1) (name s p)) (sym (before i)) (as_name x)

  from_nameleaf : {h : Held} {b : Term} {i j v : ℕ} {t : Forest} → D h b nameleaf i j t v → Named i j t × (v ≡ 0)
  from_nameleaf (seq' (expect' x) leaf') = (name_back x, refl)

  -- ',' Name, '.' Name, ':' Name
  from_link : {h : Held} {b : Term} {w i j v : ℕ} {t : Forest} → D h b (any ⨾ nameleaf ⨾ plus w) i j t v → Named (i + 1) j t × (v ≡ w)
  from_link (seq' (any' x) (seq' {t = t} d plus')) = let f = from_nameleaf d in (subst (Named _ _) (sym (join_none t)) f.0, omega (arith, f.1))

  -- so many expressions, which weigh w each
  record Listed (w i j : ℕ) (t : Forest) (v : ℕ) : Type 0 where
    pub amount : ℕ
    pub list : G.Explist s rank P i j amount t
    pub weight : v ≡ amount * w

  from_exps : {h : Held} {w i j k v : ℕ} {t u : Forest} → P.exps 0 i j t → Many h check (Comma ∷ []) (any ⨾ plus w ⨾ expr) j k u v → Listed w i k (join t u) (w + v)
  from_exps {w = w} {t = t} e (stop y) =
      record { amount = 1; list = subst (G.Explist s rank P _ _ 1) (sym (join_none t)) (G.one_exp e y); weight = omega (arith, one-mul w) }
  from_exps {w = w} e (turn {i = m} y c r) =
      let (n, d, q) = plus_then (any_then c) in
      let f = from_expr d in
      let g = from_exps {i = m + 1} f.0 r in
      record { amount = suc g.amount; list = G.more_exps e (only y) g.list; weight = omega (arith, suc-mul g.amount w, g.weight, f.1) }

  from_explist : {h : Held} {b : Term} {w i j v : ℕ} {t : Forest} → D h b (explist w) i j t v → Listed w i j t v
  unfolding explist
  from_explist (seq' plus' (seq' e d)) =
      let f = from_expr e in
      let g = from_exps f.0 (from_many d) in
      record { amount = g.amount; list = g.list; weight = omega (arith, g.weight, f.1) }

  -- [';']
  record Semi (i j : ℕ) (t : Forest) (v : ℕ) : Type 0 where
    pub there : G.Optional s rank P i j
    pub nothing : t ≡ none
    pub light : v ≡ 0

  from_semi : {h : Held} {b : Term} {i j v : ℕ} {t : Forest} → D h b (opt check (SemiColon ∷ []) any) i j t v → Semi i j t v
  from_semi (this' y (any' x)) = record { there = G.present (only y); nothing = refl; light = refl }
  from_semi (that' y empty') = record { there = G.absent y; nothing = refl; light = refl }

  from_retstat : {h : Held} {b : Term} {i j v : ℕ} {t : Forest} → D h b retstat i j t v → G.Retstat s rank P i j t × (v ≡ 0)
  unfolding retstat
  from_retstat (node' (seq' (expect' x) (seq' (this' {i = k} y empty') o))) =
      let q = from_semi o in
      (retree (G.Retstat s rank P _ _) (omega (arith, q.light)) (sym q.nothing) (G.return x (apart (kind s k) (EndOfStream ∷ End ∷ SemiColon ∷ Else ∷ ElseIf ∷ Until ∷ []) first_exp refl y) q.there), refl)
  from_retstat (node' (seq' (expect' x) (seq' {t = t} {u = u} (that' y l) o))) =
      let q = from_semi o in
      let m = from_explist l in
      (retree (G.Retstat s rank P _ _) (omega (arith, q.light, m.weight)) (sym (ap (join t) q.nothing ∙ join_none t)) (G.return_exps x m.list q.there), refl)

  -- stat | ';', and the stats after it
  next_stat : {h : Held} {b : Term} {i j k v : ℕ} {t u : Forest} → D h b (on ahead (SemiColon ∷ []) any stat) i j t v → G.Stats s rank P j k u → G.Stats s rank P i k (join t u) × (v ≡ 0)
  next_stat (this' y (any' x)) l = (G.semicolon (only y) l, refl)
  next_stat (that' y (stat' e)) l = let g = low.stat_from e in (G.next g.0 l, g.1)

  from_stats : {h : Held} {i j v : ℕ} {t : Forest} → D h stat_turn stat_turn i j t v → G.Stats s rank P i j t × (v ≡ 0)
  from_stats (this' {i = i} y empty') = (G.done (apart (kind s i) stops first_stat refl y), refl)
  from_stats (that' y (seq' c (again' d))) =
      let f = from_stats d in
      let g = next_stat c f.0 in
      (g.0, omega (arith, f.1, g.1))

  -- [retstat], after the stats
  ending : {h : Held} {b : Term} {i j k v w : ℕ} {t u : Forest} → G.Stats s rank P i j t → D h b (opt ahead (Return ∷ []) (plus 1 ⨾ retstat) ⨾ look) j k u v → w ≡ v
      → G.Block s rank P i k (tree 1 w (line s k) i (join t u) none)
  ending l (seq' o (this' y d)) e = wrong y
  ending {t = t} l (seq' {t = u} (this' z d) (that' y empty')) e =
      let (n, r, q) = plus_then d in
      let g = from_retstat r in
      retree (G.Block s rank P _ _) (omega (arith, g.1)) (ap (join t) (sym (join_none u))) (G.returning l g.0)
  ending {t = t} l (seq' (that' z empty') (that' y empty')) e = retree (G.Block s rank P _ _) (sym e) (sym (join_none t)) (G.open_ended l z)

  pub from_block : {h : Held} {b : Term} {i j v : ℕ} {t : Forest} → D h b block i j t v → G.Block s rank P i j t × (v ≡ 0)
  unfolding block
  from_block (node' (seq' (iter' d) r)) = let f = from_stats d in (ending f.0 r (omega (arith, f.1)), refl)

  -- a word, block, end
  data Body (word : ℕ) : ℕ → ℕ → Forest → ℕ → Type 0 where
    body : {i j v : ℕ} {b : Forest} → kind s i ≡ word → G.Block s rank P (i + 1) j b → kind s j ≡ End → v ≡ 0 → Body word i (j + 1) b v

  from_body : {h : Held} {c : Term} {n i j v : ℕ} {t : Forest} → D h c (word n ⨾ block ⨾ word End) i j t v → Body n i j t v
  from_body {n = n} {i = i} (seq' (expect' x) (seq' {j = m} {v = v} {t = b} k e)) =
      let f = from_block k in
      last_word (λ j u w. Body n i j (join b u) (0 + (v + w))) e (λ y. subst (λ u. Body n i (m + 1) u (0 + (v + 0))) (sym (join_none b)) (body x f.0 y (omega (arith, f.1))))

  light : {n i j v : ℕ} {b : Forest} → Body n i j b v → v ≡ 0
  light (body x b y e) = e

  -- Name [',' parlist] | '...'
  data Par (h : Held) : ℕ → ℕ → Forest → ℕ → Type 0 where
    par : {i j v w : ℕ} {t : Forest} → kind s i ≡ Name → D h param_turn (opt check (Comma ∷ []) (any ⨾ again)) (i + 1) j t v → w ≡ 2 + v → Par h i j (join (name s i) t) w
    dots : {i : ℕ} → kind s i ≡ Dots → Par h i (i + 1) none 1

  name_par : {h : Held} {i j v : ℕ} {t : Forest} → kind s i ≡ Name → D h param_turn (leaf 30 ⨾ plus 2 ⨾ opt check (Comma ∷ []) (any ⨾ again)) (i + 1) j t v → Par h i j t v
  name_par {h = h} {i = i} {j = j} {v = v} x (seq' {u = u} leaf' d) =
      let (n, e, q) = plus_then d in
      subst (λ p. Par h i j (join (name s p) u) v) (sym (before i)) (par {w = v} x e (omega arith))

  dots_par : {h : Held} {i j v : ℕ} {t : Forest} → kind s i ≡ Dots → D h param_turn (any ⨾ plus 1) i j t v → Par h i j t v
  dots_par x (seq' (any' y) plus') = dots x

  from_par : {h : Held} {i j v : ℕ} {t : Forest} → D h param_turn param_turn i j t v → Par h i j t v
  from_par d = either d (λ y d. name_par (only y) (any_then d)) (λ n d. surely d (λ y. dots_par (only y)))

  -- one parameter more
  one_par : {i j v : ℕ} {t : Forest} → kind s i ≡ Name → kind s (i + 1) ≡ Comma → G.Parlist s rank P (i + 1 + 1) j v t → G.Parlist s rank P i j (2 + v) (join (name s i) t)
  one_par x y (G.names l) = revalue (G.Parlist s rank P _ _) (omega arith) (G.names (G.more_names x y l))
  one_par x y (G.names_dots l a b) = revalue (G.Parlist s rank P _ _) (omega arith) (G.names_dots (G.more_names x y l) a b)
  one_par x y (G.dots z) = G.names_dots (G.one_name x) y z

  -- the trees after the first
  others : Forest → Forest
  others none = none
  others (tree a b c p k t) = t

  first_par : {h : Held} {i j v : ℕ} {t : Forest} → Par h i j t v → ((i v : ℕ) → Par h i j (others t) v → G.Parlist s rank P i j v (others t)) → G.Parlist s rank P i j v t
  unfolding others
  first_par (dots x) f = G.dots x
  first_par (par x (that' y empty') e) f = revalue (G.Parlist s rank P _ _) (sym e) (G.names (G.one_name x))
  first_par (par x (this' y (seq' (any' z) (again' d))) e) f = revalue (G.Parlist s rank P _ _) (omega arith) (one_par x (only y) (f _ _ (from_par d)))

  -- each parameter but '...' is a tree
  from_pars : {h : Held} {i j v : ℕ} (t : Forest) → Par h i j t v → G.Parlist s rank P i j v t
  unfolding others
  from_pars none (dots x) = G.dots x
  from_pars (tree a b c p k t) x = first_par x (λ i v y. from_pars {i = i} {v = v} t y)

  -- '(' [parlist] and its body
  defined : {h : Held} {c : Term} {i j k v w n : ℕ} {t b : Forest} → kind s i ≡ LeftParen → D h c (on check (RightParen ∷ []) empty parlist) (i + 1) j t v → Body RightParen j k b w → n ≡ v
      → G.Funcbody s rank P i k (made s 28 n i (join t b))
  unfolding parlist
  defined x (this' a empty') (body y b z w) e = retree (G.Funcbody s rank P _ _) (sym e) refl (G.no_pars x y b z)
  defined x (that' a (iter' d)) (body y b z w) e = retree (G.Funcbody s rank P _ _) (sym e) refl (G.pars x (from_pars _ (from_par d)) y b z)

  from_funcbody : {h : Held} {b : Term} {i j v : ℕ} {t : Forest} → D h b funcbody i j t v → G.Funcbody s rank P i j t × (v ≡ 0)
  unfolding funcbody
  from_funcbody (node' (seq' (expect' x) (seq' p k))) = let m = from_body k in (defined x p m (omega (arith, light m)), refl)

  from_item : {h : Held} {b : Term} {i j v : ℕ} {t : Forest} → D h b (node 36 here unlined expr) i j t v → G.Field s rank P i j t × (v ≡ 0)
  from_item (node' e) = let f = from_expr e in (retree (G.Field s rank P _ _) (sym f.1) refl (G.item f.0), refl)

  named_field : {h : Held} {b : Term} {i j v : ℕ} {t : Forest} → kind s i ≡ Name → D h b (node 37 here unlined (named ⨾ weigh ⨾ word Assign ⨾ expr)) i j t v → G.Field s rank P i j t × (v ≡ 0)
  named_field x (node' d) =
      let (n, y, e, q) = name_then d in
      let (z, r) = word_then e in
      let f = from_expr r in
      (retree (G.Field s rank P _ _) (omega (arith, f.1)) refl (G.named x z f.0), refl)

  indexed_field : {h : Held} {b : Term} {i j v : ℕ} {t : Forest} → kind s i ≡ LeftBracket → D h b (node 38 here unlined (any ⨾ expr ⨾ word RightBracket ⨾ word Assign ⨾ expr)) i j t v
      → G.Field s rank P i j t × (v ≡ 0)
  indexed_field x (node' (seq' (any' y) (seq' e d))) =
      let f = from_expr e in
      let (z, r) = word_then d in
      let (w, o) = word_then r in
      let g = from_expr o in
      (retree (G.Field s rank P _ _) (omega (arith, f.1, g.1)) refl (G.indexed x f.0 z w g.0), refl)

  from_field : {h : Held} {b : Term} {i j v : ℕ} {t : Forest} → D h b field i j t v → G.Field s rank P i j t × (v ≡ 0)
  unfolding field
  from_field d = either d (λ y d. either d (λ z. named_field (only y)) (λ n. from_item)) (λ n d. either d (λ y. indexed_field (only y)) (λ n. from_item))

  -- [fieldlist] '}'
  data Closing : ℕ → ℕ → Forest → ℕ → Type 0 where
    shut : {i : ℕ} → kind s i ≡ RightBrace → Closing i (i + 1) none 0
    filled : {i j n v : ℕ} {t : Forest} → G.Fieldlist s rank P i j n t → kind s j ≡ RightBrace → v ≡ n → Closing i (j + 1) t v

  one_field : {i j k v w : ℕ} {t u : Forest} → G.Field s rank P i j t → Among s fieldsep j → Closing (j + 1) k u v → w ≡ suc v → Closing i k (join t u) w
  one_field {w = w} {t = t} f z (shut x) e = filled {v = w} (subst (G.Fieldlist s rank P _ _ 1) (sym (join_none t)) (G.last_field_sep f z)) x (omega arith)
  one_field {w = w} f z (filled l x e) g = filled {v = w} (G.more_fields f z l) x (omega arith)

  from_fields : {h : Held} {i j v : ℕ} {t : Forest} → D h field_turn field_turn i j t v → Closing i j t v
  from_fields (this' y (expect' x)) = shut x
  from_fields (that' y (seq' plus' (seq' f (this' z (seq' (any' x) (again' d)))))) = let g = from_field f in one_field g.0 z (from_fields d) (omega (arith, g.1))
  from_fields {i = i} (that' y (seq' plus' (seq' {v = v} {t = t} f (that' z e)))) =
      let g = from_field f in
      last_word (λ j u w. Closing i j (join t u) (1 + (v + w))) e
      (λ x. filled {v = 1 + (v + 0)} (subst (G.Fieldlist s rank P _ _ 1) (sym (join_none t)) (G.last_field g.0)) x (omega (arith, g.1)))

  closed : {i j v w : ℕ} {t : Forest} → kind s i ≡ LeftBrace → Closing (i + 1) j t v → w ≡ v → G.Tableconstructor s rank P i j (made s 27 w i t)
  closed x (shut y) e = retree (G.Tableconstructor s rank P _ _) (sym e) refl (G.no_fields x y)
  closed x (filled l y f) e = retree (G.Tableconstructor s rank P _ _) (omega arith) refl (G.fields x l y)

  from_table : {h : Held} {b : Term} {i j v : ℕ} {t : Forest} → D h b table i j t v → G.Tableconstructor s rank P i j t × (v ≡ 0)
  unfolding table
  from_table (node' (seq' (expect' x) (iter' d))) = (closed x (from_fields d) (omega arith), refl)

  -- so many arguments, which weigh w each
  record Argued (w i j : ℕ) (t : Forest) (v : ℕ) : Type 0 where
    pub amount : ℕ
    pub list : G.Args s rank P i j amount t
    pub weight : v ≡ amount * w

  -- '(' [explist] ')'
  list_args : {h : Held} {b : Term} {w i j v : ℕ} {t : Forest} → kind s i ≡ LeftParen → D h b (on next (RightParen ∷ []) empty (explist w) ⨾ word RightParen) (i + 1) j t v → Argued w i j t v
  list_args {w = w} x (seq' (this' z empty') (expect' a)) = record { amount = 0; list = G.no_args x a; weight = omega (arith, zero-mul w) }
  list_args {w = w} {i = i} x (seq' {v = v} {t = t} (that' z l) e) =
      let m = from_explist l in
      last_word (λ j u y. Argued w i j (join t u) (v + y)) e
      (λ a. record { amount = m.amount; list = subst (G.Args s rank P _ _ _) (sym (join_none t)) (G.list_args x m.list a); weight = omega (arith, m.weight) })

  table_arg : {h : Held} {b : Term} {w i j v : ℕ} {t : Forest} → D h b (plus w ⨾ node 17 here unlined table) i j t v → Argued w i j t v
  table_arg {w = w} (seq' plus' (node' d)) =
      let f = from_table d in
      record { amount = 1; list = retree (G.Args s rank P _ _ 1) (sym f.1) refl (G.table_arg f.0); weight = omega (arith, one-mul w) }

  string_arg : {h : Held} {b : Term} {w i j v : ℕ} {t : Forest} → kind s i ≡ String → D h b (plus w ⨾ node 17 here unlined (any ⨾ leaf 22)) i j t v → Argued w i j t v
  string_arg {w = w} {i = i} x (seq' plus' (node' (seq' (any' y) leaf'))) =
      record {
        amount = 1;
        list = retree (G.Args s rank P _ _ 1) refl (sym (ap (λ p. tree 22 (payload s p) 0 p none none) (before i))) (G.string_arg x);
        weight = omega (arith, one-mul w);
      }

  from_args : {h : Held} {b : Term} {w i j v : ℕ} {t : Forest} → D h b (args w) i j t v → Argued w i j t v
  unfolding args
  from_args d = either d (λ y d. list_args (only y) (any_then d)) (λ n d. either d (λ y. table_arg) (λ n d. surely d (λ y. string_arg (only y))))

  abbrev Joined : ℕ → ℕ → ℕ → Forest → Forest → Type 0
  Joined i k n t u = G.Prefixexp s rank P i k (suc n) (join t u)

  -- one suffix more: '.' Name, '[' exp ']', ':' Name args, args
  dot_suffix : {h : Held} {b : Term} {i j k n v : ℕ} {t u : Forest} → G.Prefixexp s rank P i j n t → kind s j ≡ Dot → D h b (node 32 here unlined (any ⨾ named ⨾ weigh)) j k u v → Joined i k n t u × (v ≡ 0)
  dot_suffix {i = i} {j = j} {k = k} {n = n} {t = t} p x (node' (seq' (any' y) (seq' (expect' a) weigh'))) =
      (retree (Joined i k n t) (omega (arith, ap (payload s) (before (j + 1)))) refl (G.var (G.field p x a)), refl)

  index_suffix : {h : Held} {b : Term} {i j k n v : ℕ} {t u : Forest} → G.Prefixexp s rank P i j n t → kind s j ≡ LeftBracket → D h b (node 33 here unlined (any ⨾ expr ⨾ word RightBracket)) j k u v
      → Joined i k n t u × (v ≡ 0)
  index_suffix {i = i} {j = j} {n = n} {t = t} p x (node' (seq' (any' y) (seq' {j = m} {v = v} {t = e} d c))) =
      let f = from_expr d in
      last_word (λ k u w. Joined i k n t (tree 33 (0 + (v + w)) (line_of s unlined j k) j (join e u) none) × (◌≡◌ {A = ℕ} 0 0)) c
      (λ a. (retree (Joined i (m + 1) n t) (omega (arith, f.1)) (sym (join_none e)) (G.var (G.index p x f.0 a)), refl))

  method_suffix : {h : Held} {b : Term} {i j k n v : ℕ} {t u : Forest} → G.Prefixexp s rank P i j n t → kind s j ≡ Colon → D h b (node 35 here unlined (any ⨾ named ⨾ weigh ⨾ args 0)) j k u v
      → Joined i k n t u × (v ≡ 0)
  method_suffix {i = i} {k = k} {n = n} {t = t} p x (node' d) =
      let (w, y, r, q) = name_then (any_then d) in
      let f = from_args r in
      (retree (Joined i k n t) (omega (arith, f.weight, mul-zero f.amount)) refl (G.functioncall (G.method_call p x y f.list)), refl)

  call_suffix : {h : Held} {b : Term} {i j k n v : ℕ} {t u : Forest} → G.Prefixexp s rank P i j n t → D h b (node 34 here unlined (args 1)) j k u v → Joined i k n t u × (v ≡ 0)
  call_suffix {i = i} {k = k} {n = n} {t = t} p (node' d) =
      let f = from_args d in
      (retree (Joined i k n t) (omega (arith, f.weight, mul-one f.amount)) refl (G.functioncall (G.plain_call p f.list)), refl)

  from_suffix : {h : Held} {b : Term} {i j k n v : ℕ} {t u : Forest} → G.Prefixexp s rank P i j n t → D h b suffix j k u v → Joined i k n t u × (v ≡ 0)
  unfolding suffix
  from_suffix p d =
      either d (λ y. dot_suffix p (only y)) (λ n d. either d (λ y. index_suffix p (only y)) (λ n d. either d (λ y. method_suffix p (only y)) (λ n. call_suffix p)))

  named_var : {i j : ℕ} {t : Forest} → Named i j t → G.Prefixexp s rank P i j 0 t
  named_var (as_name x) = G.var (G.var_name x)

  from_var : {h : Held} {b : Term} {i j v : ℕ} {t : Forest} → kind s i ≡ Name → D h b (any ⨾ leaf 30) i j t v → G.Prefixexp s rank P i j 0 t × (v ≡ 0)
  from_var x (seq' (any' y) leaf') = (named_var (name_back x), refl)

  from_group : {h : Held} {b : Term} {i j v : ℕ} {t : Forest} → kind s i ≡ LeftParen → D h b (node 31 here unlined (any ⨾ expr ⨾ word RightParen)) i j t v → G.Prefixexp s rank P i j 0 t × (v ≡ 0)
  from_group {i = i} x (node' (seq' (any' y) (seq' {v = v} {t = e} d c))) =
      let f = from_expr d in
      last_word (λ j u w. G.Prefixexp s rank P i j 0 (tree 31 (0 + (v + w)) (line_of s unlined i j) i (join e u) none) × (◌≡◌ {A = ℕ} 0 0)) c
      (λ a. (retree (G.Prefixexp s rank P _ _ 0) (omega (arith, f.1)) (sym (join_none e)) (G.group x f.0 a), refl))

  from_primary : {h : Held} {b : Term} {i j v : ℕ} {t : Forest} → D h b primary i j t v → G.Prefixexp s rank P i j 0 t × (v ≡ 0)
  unfolding primary
  from_primary d = either d (λ y. from_group (only y)) (λ n d. surely d (λ y. from_var (only y)))

  record Followed (i k n : ℕ) (t : Forest) : Type 0 where
    pub prefixed : G.Prefixexp s rank P i k n t
    pub ended : Ends s first_suffix k

  from_suffixes : {h : Held} {i j k n v m : ℕ} {t u : Forest} → G.Prefixexp s rank P i j n t → Many h ahead first_suffix (plus 1 ⨾ suffix) j k u v → m ≡ n + v → Followed i k m (join t u)
  from_suffixes {t = t} p (stop y) e =
      record { prefixed = revalue (G.Prefixexp s rank P _ _) (omega arith) (subst (G.Prefixexp s rank P _ _ _) (sym (join_none t)) p); ended = y }
  from_suffixes {i = i} {k = k} {m = m} {t = t} p (turn {t = a} {u = r} y c d) e =
      let (n, o, q) = plus_then c in
      let f = from_suffix p o in
      subst (Followed i k m) (join_assoc t a r) (from_suffixes f.0 d (omega (arith, f.1)))

  -- a prefixexp as long as it can be
  data Suffixed : ℕ → ℕ → Forest → ℕ → Type 0 where
    as_long : {i j n : ℕ} {t : Forest} → G.Prefixexp s rank P i j n t → Ends s first_suffix j → Suffixed i j (made s 29 n i t) 0

  from_suffixed : {h : Held} {b : Term} {i j v : ℕ} {t : Forest} → D h b suffixed i j t v → Suffixed i j t v
  unfolding suffixed
  from_suffixed {i = i} {j = j} (node' (seq' p d)) =
      let f = from_primary p in
      let g = from_suffixes f.0 (from_many d) refl in
      retree (λ u. Suffixed i j u 0) (omega (arith, f.1)) refl (as_long g.prefixed g.ended)

  -- an exp that is one token
  literal : {h : Held} {b : Term} {tag i j v : ℕ} {t : Forest} → G.Exp s rank P limit i (i + 1) 0 (made s tag (payload s i) i none) → D h b (any ⨾ leaf tag) i j t v
      → G.Exp s rank P limit i j 0 t × (v ≡ 0)
  literal {tag = tag} {i = i} x (seq' (any' y) leaf') = (subst (λ p. G.Exp s rank P limit i (i + 1) 0 (tree tag (payload s p) 0 p none none)) (sym (before i)) x, refl)

  plainly : {i j v : ℕ} {t : Forest} → Suffixed i j t v → G.Exp s rank P limit i j 0 t × (v ≡ 0)
  plainly (as_long p y) = (G.prefix p y, refl)

  function_exp : {h : Held} {b : Term} {i j v : ℕ} {t : Forest} → kind s i ≡ Function → D h b (any ⨾ funcbody) i j t v → G.Exp s rank P limit i j 0 t × (v ≡ 0)
  function_exp x (seq' (any' y) d) = let f = from_funcbody d in (G.function_exp (G.functiondef x f.0), omega (arith, f.1))

  from_simple : {h : Held} {b : Term} {i j v : ℕ} {t : Forest} → D h b simple i j t v → G.Exp s rank P limit i j 0 t × (v ≡ 0)
  unfolding simple
  from_simple d =
      either d (λ y. literal (G.float (only y)))
      (λ n d. either d (λ y. literal (G.integer (only y)))
      (λ n d. either d (λ y. literal (G.string (only y)))
      (λ n d. either d (λ y. literal (G.nil (only y)))
      (λ n d. either d (λ y. literal (G.true_exp (only y)))
      (λ n d. either d (λ y. literal (G.false_exp (only y)))
      (λ n d. either d (λ y. literal (G.varargs (only y)))
      (λ n d. either d (λ y d. let f = from_table d in (G.table f.0, f.1))
      (λ n d. either d (λ y. function_exp (only y)) (λ n d. plainly (from_suffixed d))))))))))

  -- a unary operator and its operand
  from_unary : {h : Held} {b : Term} {c i j v : ℕ} {t : Forest} (k : ℕ) → kind s i ≡ k → member k unop ≡ true → unary_code k ≡ c → D h b (node 18 here unlined (any ⨾ plus c ⨾ exp 12)) i j t v
      → G.Exp s rank P limit i j 0 t × (v ≡ 0)
  from_unary {c = c} k x y z (node' d) =
      let (n, e, q) = plus_then (any_then d) in
      let f = from_expr e in
      (retree (G.Exp s rank P limit _ _ 0) (ap unary_code x ∙ z ∙ omega (arith, f.1)) refl (G.unary (known unop x y) f.0), refl)

  from_head : {h : Held} {b : Term} {i j v : ℕ} {t : Forest} → D h b head i j t v → G.Exp s rank P limit i j 0 t × (v ≡ 0)
  unfolding head find
  from_head d =
      either d (λ y. from_unary Not (only y) refl refl)
      (λ n d. either d (λ y. from_unary Minus (only y) refl refl)
      (λ n d. either d (λ y. from_unary BitNotXor (only y) refl refl)
      (λ n d. either d (λ y. from_unary Len (only y) refl refl) (λ n d. from_simple d))))

  -- an exp as long as it can be
  record Chained (i k n : ℕ) (t : Forest) : Type 0 where
    pub chained : G.Exp s rank P limit i k n t
    pub limited : rank.left (kind s k) ≤ limit

  module _ (ranked : (k : ℕ) → 0 < rank.left k → member k binop ≡ true) where
    one_tail : {i j k n v c : ℕ} {t e : Forest} → G.Exp s rank P limit i j n t → limit < rank.left (kind s j) → Q.exps (rank.right (kind s (j + 1 - 1))) (j + 1) k e v
        → c ≡ code (kind s (j + 1 - 1)) + v → G.Exp s rank P limit i k (suc n) (join t (made s 19 c j e))
    one_tail {i} {j} {k} {n} {v} {c} {t} {e} x y d q =
        let f = low.exp_from (subst (λ p. Q.exps (rank.right (kind s p)) (j + 1) k e v) (before j) d) in
        retree (λ u. G.Exp s rank P limit i k (suc n) (join t u)) (omega (arith, f.1, ap (λ p. code (kind s p)) (before j))) refl (G.binary x (ranked (kind s j) (omega arith)) y f.0)

    -- binop exp
    from_tail : {h : Held} {b : Term} {i j k n v : ℕ} {t u : Forest} → G.Exp s rank P limit i j n t → limit < rank.left (kind s j) → D h b (node 19 here unlined (any ⨾ coded ⨾ operand)) j k u v
        → G.Exp s rank P limit i k (suc n) (join t u) × (v ≡ 0)
    from_tail x y (node' (seq' (any' z) (seq' coded' (operand' d)))) = (one_tail x y d (omega arith), refl)

    from_tails : {h : Held} {i j k n m v : ℕ} {t u : Forest} → G.Exp s rank P limit i j n t → D h tail tail j k u v → m ≡ n + v → Chained i k m (join t u)
    unfolding tail
    from_tails {t = t} x (below' y empty') e =
        record { chained = revalue (G.Exp s rank P limit _ _) (omega arith) (subst (G.Exp s rank P limit _ _ _) (sym (join_none t)) x); limited = y }
    from_tails {i = i} {k = k} {m = m} {t = t} x (above' y (seq' plus' (seq' {t = a} {u = r} c (again' q)))) e =
        let f = from_tail x y c in
        subst (Chained i k m) (join_assoc t a r) (from_tails f.0 q (omega (arith, f.1)))

    pub from_expression : {h : Held} {b : Term} {i j v : ℕ} {t : Forest} → D h b expression i j t v → G.Whole s rank P limit i j t × (v ≡ 0)
    unfolding expression tails
    from_expression (node' (seq' x (iter' d))) =
        let f = from_head x in
        let g = from_tails f.0 d refl in
        (retree (G.Whole s rank P limit _ _) (omega (arith, f.1)) refl (G.whole g.chained g.limited), refl)

  -- {elseif exp then block}
  record Alternatives (i j : ℕ) (t : Forest) (v : ℕ) : Type 0 where
    pub amount : ℕ
    pub list : G.Elseifs s rank P i j amount t
    pub weight : v ≡ 2 * amount

  -- elseif exp then block
  data Alternative : ℕ → ℕ → Forest → ℕ → Type 0 where
    alternative : {i j k v : ℕ} {e b : Forest} → P.exps 0 (i + 1) j e → kind s j ≡ Then → G.Block s rank P (j + 1) k b → v ≡ 2 → Alternative i k (join e b) v

  from_elseif : {h : Held} {c : Term} {i j v : ℕ} {t : Forest} → D h c (any ⨾ plus 2 ⨾ expr ⨾ word Then ⨾ block) i j t v → Alternative i j t v
  from_elseif {v = v} (seq' (any' x) (seq' plus' (seq' d r))) =
      let f = from_expr d in
      let (z, k) = word_then r in
      let g = from_block k in
      alternative {v = v} f.0 z g.0 (omega (arith, f.1, g.1))

  one_elseif : {i j k v w : ℕ} {t u : Forest} → kind s i ≡ ElseIf → Alternative i j t v → Alternatives j k u w → Alternatives i k (join t u) (v + w)
  one_elseif {u = u} x (alternative {e = e} {b = b} d z g q) m =
      record { amount = suc m.amount; list = subst (G.Elseifs s rank P _ _ _) (sym (join_assoc e b u)) (G.elseif x d z g m.list); weight = omega (arith, m.weight) }

  from_elseifs : {h : Held} {i j v : ℕ} {t : Forest} → Many h check (ElseIf ∷ []) (any ⨾ plus 2 ⨾ expr ⨾ word Then ⨾ block) i j t v → Alternatives i j t v
  from_elseifs (stop y) = record { amount = 0; list = G.none_left; weight = refl }
  from_elseifs (turn y c q) = one_elseif (only y) (from_elseif c) (from_elseifs q)

  -- then block {elseif exp then block}, and what comes after it
  data Branches (h : Held) (c : Term) : ℕ → ℕ → Forest → ℕ → Type 0 where
    branches : {i j k l n v w : ℕ} {b t u : Forest} → kind s i ≡ Then → G.Block s rank P (i + 1) j b → G.Elseifs s rank P j k n t
        → D h c (opt check (Else ∷ []) (any ⨾ plus 1 ⨾ block) ⨾ word End) k l u w → v ≡ 2 * n + w → Branches h c i l (join b (join t u)) v

  from_branches : {h : Held} {c : Term} {i j v : ℕ} {t : Forest} → D h c (word Then ⨾ block ⨾ iter elseif_turn ⨾ opt check (Else ∷ []) (any ⨾ plus 1 ⨾ block) ⨾ word End) i j t v → Branches h c i j t v
  from_branches {v = v} (seq' (expect' x) (seq' k (seq' q d))) =
      let g = from_block k in
      let m = from_elseifs (from_many q) in
      branches {v = v} x g.0 m.list d (omega (arith, g.1, m.weight))

  choose : {h : Held} {c : Term} {i j k v w : ℕ} {e t : Forest} → kind s i ≡ If → P.exps 0 (i + 1) j e → Branches h c j k t v → w ≡ v → G.Stat s rank P i k (stated s 3 w i (join e t))
  choose {i = i} {v = v} {w = w} {e = e} x d (branches {n = f} {b = b} {t = t} y k l (seq' (that' a empty') c) q) r =
      last_word (λ k' u' w'. v ≡ 2 * f + (0 + w') → G.Stat s rank P i k' (stated s 3 w i (join e (join b (join t u'))))) c
      (λ z q. retree (G.Stat s rank P _ _) (omega arith) (ap (λ u. join e (join b u)) (sym (join_none t))) (G.if_end x d y k l z)) q
  choose {i = i} {v = v} {w = w} {e = e} x d (branches {n = f} {b = b} {t = t} y k l (seq' {v = o'} {t = u} (this' a m) c) q) r =
      let (n, o, p) = plus_then (any_then m) in
      let g = from_block o in
      last_word (λ k' u' w'. v ≡ 2 * f + (o' + w') → G.Stat s rank P i k' (stated s 3 w i (join e (join b (join t (join u u')))))) c
      (λ z q. retree (G.Stat s rank P _ _) (omega (arith, g.1)) (ap (λ u. join e (join b (join t u))) (sym (join_none u))) (G.if_else x d y k l (only a) g.0 z)) q

  from_if : {h : Held} {b : Term} {i j v : ℕ} {t : Forest} → D h b ifstat i j t v → G.Stat s rank P i j t × (v ≡ 0)
  unfolding ifstat
  from_if (node' (seq' (expect' x) (seq' d k))) =
      let f = from_expr d in
      (choose x f.0 (from_branches k) (omega (arith, f.1)), refl)

  from_do : {h : Held} {b : Term} {i j v : ℕ} {t : Forest} → kind s i ≡ Do → D h b dostat i j t v → G.Stat s rank P i j t × (v ≡ 0)
  unfolding dostat
  from_do {i = i} x (node' (seq' (any' y) (seq' {v = v} {t = b} k c))) =
      let g = from_block k in
      last_word (λ j u w. G.Stat s rank P i j (tree 5 (0 + (v + w)) (line_of s opening i j) i (join b u) none) × (◌≡◌ {A = ℕ} 0 0)) c
      (λ z. (retree (G.Stat s rank P _ _) (omega (arith, g.1)) (sym (join_none b)) (G.do_end x g.0 z), refl))

  from_repeat : {h : Held} {b : Term} {i j v : ℕ} {t : Forest} → D h b repeatstat i j t v → G.Stat s rank P i j t × (v ≡ 0)
  unfolding repeatstat
  from_repeat (node' (seq' (expect' x) (seq' k r))) =
      let (y, d) = word_then r in
      let f = from_expr d in
      let g = from_block k in
      (retree (G.Stat s rank P _ _) (omega (arith, f.1, g.1)) refl (G.repeat x g.0 y f.0), refl)

  last_name : {i j m : ℕ} {t : Forest} → Named i j t → Ends s (Comma ∷ []) j → m ≡ 1 → G.Attnamelist s rank P i j m (join t none)
  last_name (as_name x) y e = revalue (G.Attnamelist s rank P _ _) (sym e) (G.att x y)

  next_name : {i j k m n : ℕ} {t u : Forest} → Named i j t → Among s (Comma ∷ []) j → G.Attnamelist s rank P (j + 1) k n u → m ≡ 1 + n → G.Attnamelist s rank P i k m (join t u)
  next_name (as_name x) y l e = revalue (G.Attnamelist s rank P _ _) (omega arith) (G.atts x (only y) l)

  -- Name {',' Name}
  from_names : {h : Held} {i j k v m : ℕ} {t u : Forest} → Named i j t → Many h check (Comma ∷ []) (any ⨾ nameleaf ⨾ plus 1) j k u v → m ≡ 1 + v → G.Attnamelist s rank P i k m (join t u)
  from_names x (stop y) e = last_name x y e
  from_names x (turn {i = l} y c d) e = let f = from_link c in next_name x y (from_names {i = l + 1} f.0 d refl) (omega (arith, f.1))

  -- Name {',' Name}, and what comes after it
  data Names (h : Held) (b e : Term) : ℕ → ℕ → Forest → ℕ → Type 0 where
    names : {i j k n v w : ℕ} {t u : Forest} → G.Attnamelist s rank P i j n t → D h b e j k u w → v ≡ n + w → Names h b e i k (join t u) v

  from_namelist : {h : Held} {b e : Term} {i j k v : ℕ} {t u : Forest} → Named i j t → D h b (plus 1 ⨾ iter name_turn ⨾ e) j k u v → Names h b e i k (join t u) v
  from_namelist {h = h} {b = b} {e = e} {i = i} {k = k} {v = v} {t = t} x (seq' plus' (seq' {t = r} {u = u} n d)) =
      subst (λ o. Names h b e i k o v) (join_assoc t r u) (names {v = v} (from_names x (from_many n) refl) d (omega arith))

  -- a namelist is one that no ',' follows, or any
  loosely : {i j n : ℕ} {t : Forest} → G.Attnamelist s rank P i j n t → G.Namelist s rank P i j n t
  loosely (G.att x y) = G.one_name x
  loosely (G.atts x y l) = G.more_names x y (loosely l)

  during : {i j k v : ℕ} {e b : Forest} → kind s i ≡ While → P.exps 0 (i + 1) j e → Body Do j k b v → G.Stat s rank P i k (stated s 4 0 i (join e b))
  during x e (body y b z w) = G.while x e y b z

  from_while : {h : Held} {b : Term} {i j v : ℕ} {t : Forest} → D h b whilestat i j t v → G.Stat s rank P i j t × (v ≡ 0)
  unfolding whilestat
  from_while (node' (seq' (expect' x) (seq' d k))) =
      let f = from_expr d in
      let m = from_body k in
      (retree (G.Stat s rank P _ _) (omega (arith, f.1, light m)) refl (during x f.0 m), refl)

  abbrev Head : ℕ → Type 0
  Head i = (kind s i ≡ For) × (kind s (i + 1) ≡ Name) × (kind s (i + 1 + 1) ≡ Assign)

  -- [',' exp] do block end
  data Step : ℕ → ℕ → Forest → ℕ → Type 0 where
    no_step : {i j v w : ℕ} {b : Forest} → Body Do i j b v → w ≡ 0 → Step i j b w
    step : {i j k v w : ℕ} {e b : Forest} → kind s i ≡ Comma → P.exps 0 (i + 1) j e → Body Do j k b v → w ≡ 0 → Step i k (join e b) w

  from_step : {h : Held} {c : Term} {i j v : ℕ} {t : Forest} → D h c (opt check (Comma ∷ []) (any ⨾ expr) ⨾ word Do ⨾ block ⨾ word End) i j t v → Step i j t v
  from_step {v = v} (seq' (that' y empty') k) = let m = from_body k in no_step {w = v} m (omega (arith, light m))
  from_step {v = v} (seq' (this' y d) k) =
      let f = from_expr (any_then d) in
      let m = from_body k in
      step {w = v} (only y) f.0 m (omega (arith, f.1, light m))

  numeric : {i j k l v n : ℕ} {e f t : Forest} → Head i → P.exps 0 (i + 1 + 1 + 1) j e → kind s j ≡ Comma → P.exps 0 (j + 1) k f → Step k l t v → n ≡ payload s (i + 1) + v
      → G.Stat s rank P i l (stated s 6 n i (join e (join f t)))
  numeric h e x f (no_step (body y b z w) o) q = retree (G.Stat s rank P _ _) (omega arith) refl (G.for_two h.0 h.1 h.2 e x f y b z)
  numeric h e x f (step a g (body y b z w) o) q = retree (G.Stat s rank P _ _) (omega arith) refl (G.for_three h.0 h.1 h.2 e x f a g y b z)

  -- exp ',' exp [',' exp] do block end
  from_range : {h : Held} {c : Term} {i j v n : ℕ} {t : Forest} → Head i
      → D h c (expr ⨾ word Comma ⨾ expr ⨾ opt check (Comma ∷ []) (any ⨾ expr) ⨾ word Do ⨾ block ⨾ word End) (i + 1 + 1 + 1) j t v → n ≡ payload s (i + 1) + v → G.Stat s rank P i j (stated s 6 n i t)
  from_range q (seq' d (seq' (expect' w) (seq' o k))) e =
      let f = from_expr d in
      let g = from_expr o in
      numeric q f.0 w g.0 (from_step k) (omega (arith, f.1, g.1))

  from_numeric : {b : Term} {i j v : ℕ} {t r : Forest} → Head i → D (hold i (i + 1 + 1) r) b (node 6 back opening (weigh ⨾ any ⨾ expr ⨾ word Comma ⨾ expr ⨾ opt check (Comma ∷ []) (any ⨾ expr) ⨾ word Do ⨾ block ⨾ word End)) (i + 1 + 1) j t v → G.Stat s rank P i j t × (0 + v ≡ 0)
  from_numeric {i = i} q (node' (seq' weigh' d)) = (from_range q (any_then d) (omega (arith, ap (payload s) (before (i + 1)))), refl)

  generic : {i j k l m n v : ℕ} {t u b : Forest} → kind s i ≡ For → G.Attnamelist s rank P (i + 1) j n t → kind s j ≡ In → G.Explist s rank P (j + 1) k m u → Body Do k l b v
      → G.Stat s rank P i l (stated s 7 n i (join t (join u b)))
  generic x l a m (body y b z w) = G.for_in x (loosely l) a m y b z

  from_in : {h : Held} {c : Term} {i j v : ℕ} {t : Forest} → kind s i ≡ For → Names h c (word In ⨾ explist 0 ⨾ word Do ⨾ block ⨾ word End) (i + 1) j t v → G.Stat s rank P i j (stated s 7 v i t)
  from_in x (names l (seq' (expect' w) (seq' d k)) q) =
      let g = from_explist d in
      let m = from_body k in
      retree (G.Stat s rank P _ _) (omega (arith, g.weight, light m, mul-zero g.amount)) refl (generic x l w g.list m)

  from_generic : {b : Term} {i j v : ℕ} {t r : Forest} → kind s i ≡ For → kind s (i + 1) ≡ Name → D (hold i (i + 1 + 1) r) b (node 7 back opening (leaf 30 ⨾ plus 1 ⨾ iter name_turn ⨾ word In ⨾ explist 0 ⨾ word Do ⨾ block ⨾ word End)) (i + 1 + 1) j t v
      → G.Stat s rank P i j t × (0 + v ≡ 0)
  from_generic x y (node' (seq' leaf' d)) = (retree (G.Stat s rank P _ _) (omega arith) refl (from_in x (from_namelist (name_back y) d)), refl)

  from_for : {h : Held} {b : Term} {i j v : ℕ} {t : Forest} → D h b forstat i j t v → G.Stat s rank P i j t × (v ≡ 0)
  unfolding forstat
  from_for (lead' (seq' (expect' x) (expect' y)) d) = either d (λ z. from_numeric (x, y, only z)) (λ n d. surely d (λ z. from_generic x y))

  from_local_function : {h : Held} {b : Term} {i j v : ℕ} {t : Forest} → kind s i ≡ Local → D h b localfunction i j t v → G.Stat s rank P i j t × (v ≡ 0)
  unfolding localfunction
  from_local_function x (node' d) =
      let (y, r) = word_then (any_then d) in
      let (n, z, e, q) = name_then r in
      let f = from_funcbody e in
      (retree (G.Stat s rank P _ _) (omega (arith, f.1)) refl (G.local_function x y z f.0), refl)

  locals : {h : Held} {b : Term} {i j v w : ℕ} {t : Forest} → kind s i ≡ Local → Names h b (opt check (Assign ∷ []) (any ⨾ explist 0)) (i + 1) j t v → w ≡ v → G.Stat s rank P i j (stated s 11 w i t)
  locals x (names {t = t} l (that' y empty') q) e = retree (G.Stat s rank P _ _) (omega arith) (sym (join_none t)) (G.local x l y)
  locals x (names l (this' y d) q) e =
      let g = from_explist (any_then d) in
      retree (G.Stat s rank P _ _) (omega (arith, g.weight, mul-zero g.amount)) refl (G.local_is x l (only y) g.list)

  from_local : {h : Held} {b : Term} {i j v : ℕ} {t : Forest} → D h b localstat i j t v → G.Stat s rank P i j t × (v ≡ 0)
  unfolding localstat
  from_local (node' (seq' (expect' x) (seq' n d))) = let f = from_nameleaf n in (locals x (from_namelist f.0 d) (omega (arith, f.1)), refl)

  labelled : {h : Held} {b : Term} {i j v w : ℕ} {t : Forest} → kind s i ≡ DoubleColon → kind s (i + 1) ≡ Name → D h b (word DoubleColon) (i + 1 + 1) j t v → w ≡ payload s (i + 1) + v
      → G.Stat s rank P i j (stated s 12 w i t)
  labelled x y (expect' z) e = retree (G.Stat s rank P _ _) (omega arith) refl (G.label (G.labelled x y z))

  from_label : {h : Held} {b : Term} {i j v : ℕ} {t : Forest} → D h b label i j t v → G.Stat s rank P i j t × (v ≡ 0)
  unfolding label
  from_label (node' d) =
      let (x, r) = word_then d in
      let (n, y, e, q) = name_then r in
      (labelled x y e q, refl)

  from_goto : {h : Held} {b : Term} {i j v : ℕ} {t : Forest} → D h b gotostat i j t v → G.Stat s rank P i j t × (v ≡ 0)
  unfolding gotostat
  from_goto (node' {i = i} (seq' (expect' x) (seq' (expect' y) weigh'))) =
      (retree (G.Stat s rank P _ _) (omega (arith, ap (payload s) (before (i + 1)))) refl (G.goto x y), refl)

  from_break : {h : Held} {b : Term} {i j v : ℕ} {t : Forest} → kind s i ≡ Break → D h b breakstat i j t v → G.Stat s rank P i j t × (v ≡ 0)
  unfolding breakstat
  from_break x (node' (any' y)) = (G.break x, refl)

  -- {'.' Name} [':' Name]
  one_fieldname : {i j k v w : ℕ} {t u : Forest} → kind s i ≡ Dot → Named (i + 1) j t → G.Fields s rank P j k v u → w ≡ 2 + v → G.Fields s rank P i k w (join t u)
  one_fieldname x (as_name y) l e = revalue (G.Fields s rank P _ _) (sym e) (G.field_name x y l)

  from_fieldnames : {h : Held} {i j k v w m : ℕ} {t u : Forest} → Many h ahead (Dot ∷ []) (any ⨾ nameleaf ⨾ plus 2) i j t v → G.Fields s rank P j k w u → m ≡ v + w → G.Fields s rank P i k m (join t u)
  from_fieldnames (stop y) l e = revalue (G.Fields s rank P _ _) (omega arith) l
  from_fieldnames {i = i} {k = k} {m = m} {u = u} (turn {t = a} {u = r} y c d) l e =
      let f = from_link c in
      subst (G.Fields s rank P i k m) (sym (join_assoc a r u)) (one_fieldname (only y) f.0 (from_fieldnames d l refl) (omega (arith, f.1)))

  one_method : {i j v : ℕ} {t : Forest} → kind s i ≡ Colon → Named (i + 1) j t → v ≡ 1 → G.Fields s rank P i j v t
  one_method x (as_name y) e = revalue (G.Fields s rank P _ _) (sym e) (G.method x y)

  from_method : {h : Held} {b : Term} {i j v : ℕ} {t : Forest} → D h b (opt ahead (Colon ∷ []) (any ⨾ nameleaf ⨾ plus 1)) i j t v → G.Fields s rank P i j v t
  from_method (that' y empty') = G.no_method
  from_method (this' y d) = let f = from_link d in one_method (only y) f.0 f.1

  -- {'.' Name} [':' Name] funcbody
  from_definition : {h : Held} {b : Term} {i j k v w : ℕ} {t u : Forest} → kind s i ≡ Function → Named (i + 1) j t
      → D h b (iter fieldname_turn ⨾ opt ahead (Colon ∷ []) (any ⨾ nameleaf ⨾ plus 1) ⨾ funcbody) j k u v → w ≡ v → G.Stat s rank P i k (stated s 9 w i (join t u))
  from_definition {t = t} x (as_name y) (seq' {t = p} n (seq' {t = q} {u = d} m k)) e =
      let f = from_funcbody k in
      retree (G.Stat s rank P _ _) (omega (arith, f.1)) (join_assoc t (join p q) d ∙ ap (join t) (join_assoc p q d)) (G.function x (G.funcname y (from_fieldnames (from_many n) (from_method m) refl)) f.0)

  from_function : {h : Held} {b : Term} {i j v : ℕ} {t : Forest} → D h b functionstat i j t v → G.Stat s rank P i j t × (v ≡ 0)
  unfolding functionstat
  from_function (node' (seq' (expect' x) (seq' n d))) = let f = from_nameleaf n in (from_definition x f.0 d (omega (arith, f.1)), refl)

  -- a var, and a functioncall, as a tree
  data Target : ℕ → ℕ → Forest → Type 0 where
    targeted : {i j n : ℕ} {t : Forest} → G.Var s rank P i j n t → Target i j (made s 29 n i t)

  data Called : ℕ → ℕ → Forest → Type 0 where
    called : {i j n : ℕ} {t : Forest} → G.Functioncall s rank P i j n t → Ends s first_suffix j → Called i j (made s 29 n i t)

  as_target : {i j n : ℕ} {t : Forest} → G.Prefixexp s rank P i j n t → shaped target (made s 29 n i t) ≡ true → Target i j (made s 29 n i t)
  as_target (G.var w) h = targeted w
  as_target (G.functioncall {t = t} f) h = wrong (sym (apart (last 0 t) (34 ∷ 35 ∷ []) (30 ∷ 32 ∷ 33 ∷ []) refl (last_call s rank P f)) ∙ h)
  as_target (G.group x e y) h = wrong h

  as_call : {i j n : ℕ} {t : Forest} → G.Prefixexp s rank P i j n t → Ends s first_suffix j → shaped call (made s 29 n i t) ≡ true → Called i j (made s 29 n i t)
  as_call (G.var {t = t} w) y h = wrong (sym (apart (last 0 t) (30 ∷ 32 ∷ 33 ∷ []) (34 ∷ 35 ∷ []) refl (last_var s rank P w)) ∙ h)
  as_call (G.functioncall f) y h = called f y
  as_call (G.group x e z) y h = wrong h

  from_target : {i j v : ℕ} {t : Forest} → Suffixed i j t v → shaped target t ≡ true → Target i j t × (v ≡ 0)
  from_target (as_long p y) h = (as_target p h, refl)

  from_call : {i j v : ℕ} {t : Forest} → Suffixed i j t v → shaped call t ≡ true → Called i j t × (v ≡ 0)
  from_call (as_long p y) h = (as_call p y h, refl)

  one_var : {i j : ℕ} {t : Forest} → Target i j t → G.Varlist s rank P i j 1 t
  one_var (targeted w) = G.one_var w

  more_vars : {i j k n : ℕ} {t u : Forest} → Target i j t → kind s j ≡ Comma → G.Varlist s rank P (j + 1) k n u → G.Varlist s rank P i k (suc n) (join t u)
  more_vars (targeted w) x l = G.more_vars w x l

  -- ',' var
  from_next : {h : Held} {b : Term} {i j v : ℕ} {t : Forest} → D h b (any ⨾ kept target 3 suffixed ⨾ plus 1) i j t v → Target (i + 1) j t × (v ≡ 1)
  from_next (seq' (any' x) (seq' {t = t} (kept' z d) plus')) =
      let f = from_target (from_suffixed d) z in
      (subst (Target _ _) (sym (join_none t)) f.0, omega (arith, f.1))

  from_targets : {h : Held} {i j k v m : ℕ} {t u : Forest} → Target i j t → Many h check (Comma ∷ []) (any ⨾ kept target 3 suffixed ⨾ plus 1) j k u v → m ≡ 1 + v → G.Varlist s rank P i k m (join t u)
  from_targets {t = t} w (stop y) e = revalue (G.Varlist s rank P _ _) (sym e) (subst (G.Varlist s rank P _ _ 1) (sym (join_none t)) (one_var w))
  from_targets w (turn {i = m} y c q) e =
      let f = from_next c in
      revalue (G.Varlist s rank P _ _) (omega (arith, f.1)) (more_vars w (only y) (from_targets {i = m + 1} f.0 q refl))

  -- {',' var} '=' explist
  assigned : {h : Held} {b : Term} {i j k v w : ℕ} {t u : Forest} → Target i j t → D h b (iter target_turn ⨾ word Assign ⨾ explist 0) j k u v → w ≡ 1 + v → G.Stat s rank P i k (stated s 16 w i (join t u))
  assigned {t = t} a (seq' {t = r} q (seq' {u = u} (expect' x) l)) e =
      let g = from_explist l in
      retree (G.Stat s rank P _ _) (omega (arith, g.weight, mul-zero g.amount)) (join_assoc t r u) (G.assignment (from_targets a (from_many q) refl) x g.list)

  from_assignment : {b : Term} {i j k v w : ℕ} {t u : Forest} → Suffixed i j t v → D (hold i j t) b (node 16 back opening (held target 3 ⨾ plus 1 ⨾ iter target_turn ⨾ word Assign ⨾ explist 0)) j k u w
      → G.Stat s rank P i k u × (v + w ≡ 0)
  from_assignment {t = t} p (node' (seq' (held' z) (seq' plus' d))) = let f = from_target p z in (assigned f.0 d (omega arith), omega (arith, f.1))

  calling : {i j : ℕ} {t : Forest} → Called i j t → G.Stat s rank P i j (stated s 15 0 i t)
  calling (called f y) = G.call f y

  from_calling : {b : Term} {i j k v w : ℕ} {t u : Forest} → Suffixed i j t v → D (hold i j t) b (node 15 back opening (held call 4)) j k u w → G.Stat s rank P i k u × (v + w ≡ 0)
  from_calling p (node' (held' z)) = let f = from_call p z in (calling f.0, omega (arith, f.1))

  from_exprstat : {h : Held} {b : Term} {i j v : ℕ} {t : Forest} → D h b exprstat i j t v → G.Stat s rank P i j t × (v ≡ 0)
  unfolding exprstat
  from_exprstat (lead' p d) = either d (λ y. from_assignment (from_suffixed p)) (λ n. from_calling (from_suffixed p))

  pub from_statement : {h : Held} {b : Term} {i j v : ℕ} {t : Forest} → D h b statement i j t v → G.Stat s rank P i j t × (v ≡ 0)
  unfolding statement
  from_statement d =
      either d (λ y. from_if)
      (λ n d. either d (λ y. from_while)
      (λ n d. either d (λ y. from_do (only y))
      (λ n d. either d (λ y. from_for)
      (λ n d. either d (λ y. from_repeat)
      (λ n d. either d (λ y. from_function)
      (λ n d. either d (λ y d. either d (λ z. from_local_function (only y)) (λ z. from_local))
      (λ n d. either d (λ y. from_label)
      (λ n d. either d (λ y. from_break (only y))
      (λ n d. either d (λ y. from_goto) (λ n. from_exprstat))))))))))
