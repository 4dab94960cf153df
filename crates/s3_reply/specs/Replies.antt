-- The bytes of a reply.
use Rattle.std.specs.Prelude.{ℕ, Bool, List, ◌++◌, codes}
use Rattle.std.specs.List.{flat_map}
use Rattle.s3_reply.specs.Asked.{Asked}
use Rattle.s3_reply.specs.Documents.{document_bytes}
use Rattle.s3_reply.specs.Headers.{headers_of, line_of}
use Rattle.s3_reply.specs.Statuses.{status_of, status_line}

-- the head: a status line, the headers and an empty line (RFC 9112, section 2.1)
abbrev pub head_bytes : Asked → ℕ → Bool → List ℕ
head_bytes asked now close = status_line (status_of asked.call asked.reply) ++ flat_map line_of (headers_of asked now close) ++ codes "\r\n"

-- the head and the document
abbrev pub reply_bytes : Asked → ℕ → Bool → List ℕ
reply_bytes asked now close = head_bytes asked now close ++ document_bytes asked
