-- What the members of the descent promise: their answer, the place and the array as they leave them, are those of the reading.
-- Assumes nothing: these are definitions.
use Rattle.std.specs.Prelude.{◌≡◌, List, [], ◌∷◌, Bool, true, false, ℕ, ◌+◌, ◌*◌, ◌-◌, ◌≤◌, ◌<◌, eqb, Option, Some, None, Result, Ok, Err}
use Rattle.std.proofs.lemmas.List.Edits.{sets}
use Rattle.stream.specs.Words.{records}
use Rattle.stream.specs.declared.reader.Cursor.{Cursor}
use Rattle.stream.specs.declared.reader.Note.{Note}
use Rattle.stream.specs.declared.reader.Token.{Token}
use Rattle.stream.specs.declared.reader.Refusal.{Refusal}
use Rattle.operators.specs.Ranks.{ranks}
use Rattle.operators.specs.declared.Ranking.{Ranking}
use Rattle.tree.specs.Forest.{Forest, none, tree, size, words, flat}
use Rattle.tree.specs.Tags.{tag_word}
use Rattle.tree.specs.declared.tags.Tag.{Tag}
use Rattle.grammar.specs.Member.{member}
use Rattle.grammar.specs.Term.{Term}
use Rattle.grammar.specs.Grammar.{first_suffix}
use Rattle.grammar.specs.Reading.{Out, fine, fail, Reader, read, hold, last}
use Rattle.grammar.specs.Levels.{readers}
use Rattle.quarrel.specs.Notes.{noted, held, fresh, resumed}
use Rattle.parser.specs.declared.place.Place.{Place}
use Rattle.parser.specs.declared.place.Script.{Script}

-- what a member may rely on: a place in the stream, and few records used by then
pub record Ready (s : List ℕ) (p : Place) (slack : ℕ) : Type 0 where
  pub at : p.cursor.place < records s
  pub room : p.used ≤ 4 * p.cursor.place + slack

-- what was read up to c, with value v: its trees are laid over the nodes n from record `used` on, up to record u; and w says what they add
-- to the note q
pub record Fined (w : Forest → Note → Note) (s : List ℕ) (q : Note) (low used more : ℕ) (n n' : List ℕ) (o : Out) (c : Cursor) (u v : ℕ) : Type 0 where
  pub trees : Forest
  pub says : o ≡ fine c.place c.mark trees v
  pub grown : u ≡ used + size trees
  pub laid : n' ≡ sets n (used * 4) (flat trees)
  pub at : c.place < records s
  pub later : low ≤ c.place
  pub room : u ≤ 4 * c.place + more
  pub noted : c.note ≡ w trees q

abbrev pub Fine : List ℕ → Note → (low used more : ℕ) → List ℕ → List ℕ → Out → Cursor → (u v : ℕ) → Type 0
Fine s = Fined (noted s) s

-- an expression under the limit 0 has a chain of its own, an operand goes on with the chain that it stands in: what it adds to a note; and
-- the notes at its start and at its end
abbrev pub chained : Bool → List ℕ → Forest → Note → Note
chained true s = noted s
chained false s = held s

abbrev pub counts : List ℕ → ℕ → Forest → Note → Note
counts s limit = chained (eqb limit 0) s

abbrev pub begins : Bool → Note → Note
begins true n = fresh n
begins false n = n

abbrev pub backs : Bool → Note → Note → Note
backs true o n = resumed o n
backs false o n = n

-- by cases on the answer: what was read up to the place p, or the reading's refusal; with a number of things; with the tag of the last part
abbrev pub Meeting : (Forest → Note → Note) → List ℕ → Note → (low used more : ℕ) → List ℕ → List ℕ → Out → Place → Result Unit Refusal → Type 0
Meeting w s q low used more n n' o p (Ok x) = Fined w s q low used more n n' o p.cursor p.used 0
Meeting w s q low used more n n' o p (Err e) = o ≡ fail e

abbrev pub Meets : List ℕ → Note → (low used more : ℕ) → List ℕ → List ℕ → Out → Place → Result Unit Refusal → Type 0
Meets s = Meeting (noted s) s

abbrev pub Sums : List ℕ → Note → (start low used more : ℕ) → List ℕ → List ℕ → Out → Place → Result ℕ Refusal → Type 0
Sums s q start low used more n n' o p (Ok v) = Fine s q low used more n n' o p.cursor p.used v × (v + 2 * start ≤ 2 * p.cursor.place)
Sums s q start low used more n n' o p (Err e) = o ≡ fail e

abbrev pub Ending : List ℕ → Note → (low used more : ℕ) → List ℕ → List ℕ → Out → (Forest → Forest) → Place → Result Tag Refusal → Type 0
Ending s q low used more n n' o parts p (Ok t) = (f : Fine s q low used more n n' o p.cursor p.used 0) × (tag_word t ≡ last 0 (parts f.trees))
Ending s q low used more n n' o parts p (Err e) = o ≡ fail e

-- a suffix where a token of such a kind comes, and nothing, with nothing changed, where another does
abbrev pub Suffixing : List ℕ → Note → (low used more : ℕ) → List ℕ → List ℕ → Out → ℕ → Place → Place → Result (Option Tag) Refusal → Type 0
Suffixing s q low used more n n' o k p p' (Ok (Some t)) = (member k first_suffix ≡ true) × ((f : Fine s q low used more n n' o p'.cursor p'.used 0) × (tag_word t ≡ last 0 f.trees))
Suffixing s q low used more n n' o k p p' (Ok None) = (member k first_suffix ≡ false) × ((n' ≡ n) × (p' ≡ p))
Suffixing s q low used more n n' o k p p' (Err e) = (member k first_suffix ≡ true) × (o ≡ fail e)

-- the whole stream: the place comes with the answer
abbrev pub Met : List ℕ → Note → (low used more : ℕ) → List ℕ → List ℕ → Out → Result Place Refusal → Type 0
Met s q low used more n n' o (Ok p) = Fine s q low used more n n' o p.cursor p.used 0
Met s q low used more n n' o (Err e) = o ≡ fail e

-- the reading of a production at a cursor, under a limit, where the expression statement that holds a target ends at `end`
abbrev pub again : Reader
again p m = fail (record { number = 0; line = 0; found = 0; expected = 0 })

abbrev pub under : List ℕ → Ranking → (limit levels end : ℕ) → Term → Reader
under s r limit g end e = read s (ranks r) limit (readers s (ranks r) g) (hold 0 end none) e again

abbrev pub says : List ℕ → Ranking → ℕ → Term → Cursor → Out
says s r g e c = under s r 0 g 0 e c.place c.mark

-- a member reads a production from the place p on, of one token at least; with a number of things, which fit into the tokens; with the tag of
-- the last part; a suffix, or nothing
abbrev pub Reads : Script → Term → (more : ℕ) → Place → Place → List ℕ → List ℕ → Result Unit Refusal → Type 0
Reads x e more p p' n n' r = Meets x.stream.now p.cursor.note (p.cursor.place + 1) p.used more n n' (says x.stream.now x.ranking x.levels e p.cursor) p' r

abbrev pub Counts : Script → Term → (low more : ℕ) → Place → Place → List ℕ → List ℕ → Result ℕ Refusal → Type 0
Counts x e low more p p' n n' r = Sums x.stream.now p.cursor.note p.cursor.place low p.used more n n' (says x.stream.now x.ranking x.levels e p.cursor) p' r

abbrev pub Ends : Script → Term → (Forest → Forest) → Place → Place → List ℕ → List ℕ → Result Tag Refusal → Type 0
Ends x e parts p p' n n' r = Ending x.stream.now p.cursor.note (p.cursor.place + 1) p.used 0 n n' (says x.stream.now x.ranking x.levels e p.cursor) parts p' r

abbrev pub Suffixes : Script → Term → ℕ → Place → Place → List ℕ → List ℕ → Result (Option Tag) Refusal → Type 0
Suffixes x e k p p' n n' r = Suffixing x.stream.now p.cursor.note (p.cursor.place + 1) p.used 0 n n' (says x.stream.now x.ranking x.levels e p.cursor) k p p' r

-- the children of the first tree, and a forest itself
abbrev pub kids : Forest → Forest
kids none = none
kids (tree tag value line place k rest) = k

abbrev pub itself : Forest → Forest
itself t = t

-- a record that is no expression, no tail and no unary operator
abbrev pub Ordinary : ℕ → Type 0
Ordinary tag = (eqb tag 17 ≡ false) × (eqb tag 19 ≡ false) × (eqb tag 18 ≡ false)

-- the refusals that the members make: another token than was expected; what is assigned to, or stands alone, is of another shape
abbrev pub unexpected : Token → (found expected : ℕ) → Refusal
unexpected t found expected = record { number = 1; line = t.line; found = found; expected = expected }

abbrev pub misfit : (number line : ℕ) → Refusal
misfit number line = record { number = number; line = line; found = 0; expected = 0 }

-- a call as a statement, or the refusal of what is none
abbrev pub Calls : (first used : ℕ) → List ℕ → List ℕ → (line last after : ℕ) → Result Unit Refusal → Type 0
Calls first used n n' line last after (Ok x) = (member last (34 ∷ 35 ∷ []) ≡ true) × (n' ≡ sets n (first * 4) (words 15 0 line (used - first)))
Calls first used n n' line last after (Err e) = (member last (34 ∷ 35 ∷ []) ≡ false) × (e ≡ misfit 4 after)
