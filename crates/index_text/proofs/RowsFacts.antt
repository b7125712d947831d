-- Worked texts, by computing what they say.
use Rattle.index_text.specs.Rows.{RelationRows, StanzaRows, VersionRows}

pub version_rows : VersionRows
version_rows = assumption

pub relation_rows : RelationRows
relation_rows = assumption

pub stanza_rows : StanzaRows
stanza_rows = assumption
