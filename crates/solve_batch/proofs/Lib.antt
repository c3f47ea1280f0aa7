mod SolvedReplies
